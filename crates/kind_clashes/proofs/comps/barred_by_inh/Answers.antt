use Rattle.kind_clashes.proofs.comps.barred_by_inh.Goals as goal

pub returns-in-Attr : goal.returns-in-Attr
returns-in-Attr c = rw c.in-Attr.is c.barred_at.ensures
