use Rattle.std.proofs.Common.{take}
use Rattle.leaf_types.specs.Tables.{type_of_attribute, OfSome, HasMore}
use Rattle.leaf_types.specs.Uneven.{IsOther}
use Rattle.leaf_types.proofs.uneven.note_attributes.Given as goal

-- the attributes so far
abbrev pub invariant-loop-attr : goal.invariant-loop-attr
invariant-loop-attr l = HasMore (OfSome (IsOther l.types l.heir.0 l.row.name.0) (take l.attr-index l.attr-items)) (type_of_attribute l.initial.uneven) (type_of_attribute l.uneven)
