use Rattle.std.proofs.Common.{take}
use Rattle.leaf_types.specs.Tables.{type_of_attribute, OfSome, HasMore}
use Rattle.leaf_types.specs.Entries.{GivesAttribute}
use Rattle.leaf_types.proofs.attributes.AttributeTypes.of.Given as goal

-- the rows so far
abbrev pub invariant-loop-row : goal.invariant-loop-row
invariant-loop-row l = HasMore (OfSome GivesAttribute (take l.row-index l.rows)) (type_of_attribute l.initial.types) (type_of_attribute l.types)
