use Rattle.kind_clashes.proofs.comps.barred_by_start.Goals as goal

pub returns-in-Start : goal.returns-in-Start
returns-in-Start c = rw c.in-Start.is c.least_tail.ensures
