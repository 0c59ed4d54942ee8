use Rattle.kind_clashes.proofs.sides.target_side_clash.Goals as goal

pub returns-in-Attr : goal.returns-in-Attr
returns-in-Attr c = rw c.in-Attr.is c.side_clash.ensures
