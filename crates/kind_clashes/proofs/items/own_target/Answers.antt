use Rattle.kind_clashes.proofs.items.own_target.Goals as goal

pub returns-in-Attr : goal.returns-in-Attr
returns-in-Attr c = rw c.in-Attr.is c.own_use.ensures
