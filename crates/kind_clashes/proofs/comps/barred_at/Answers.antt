use Rattle.kind_clashes.proofs.comps.barred_at.Goals as goal

pub returns-in-Inh : goal.returns-in-Inh
returns-in-Inh c = rw c.in-Inh.is c.least_from_below.ensures
