use Rattle.table_faults.proofs.unknown.foreign_target.Goals as goal

pub returns-in-Attr : goal.returns-in-Attr
returns-in-Attr c = rw c.in-Attr.is c.foreign_place.ensures
