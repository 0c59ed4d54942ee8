use Rattle.std.proofs.Common.{take}
use Rattle.leaf_types.specs.Tables.{type_of_attribute, OfSome, HasMore}
use Rattle.leaf_types.specs.Entries.{IsAttribute}
use Rattle.leaf_types.proofs.attributes.AttributeTypes.set_row.Given as goal

-- the attributes so far
abbrev pub invariant-loop-attr : goal.invariant-loop-attr
invariant-loop-attr l = HasMore (OfSome (IsAttribute l.row.name.0) (take l.attr-index l.attr-items)) (type_of_attribute l.initial.self) (type_of_attribute l.self)
