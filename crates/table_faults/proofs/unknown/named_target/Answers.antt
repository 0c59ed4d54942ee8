use Rattle.table_faults.proofs.unknown.named_target.Goals as goal

pub returns-in-Attr : goal.returns-in-Attr
returns-in-Attr c = rw c.in-Attr.is c.named_place.ensures
