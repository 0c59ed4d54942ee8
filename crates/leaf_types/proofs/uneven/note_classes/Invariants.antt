use Rattle.std.proofs.Common.{take}
use Rattle.leaf_types.specs.Tables.{type_of_attribute, OfSome, HasMore}
use Rattle.leaf_types.specs.Uneven.{IsOtherOnClass}
use Rattle.leaf_types.proofs.uneven.note_classes.Given as goal

-- the rows so far
abbrev pub invariant-loop-row : goal.invariant-loop-row
invariant-loop-row l = HasMore (OfSome (IsOtherOnClass l.types l.heirs l.heir.0) (take l.row-index l.rows)) (type_of_attribute l.initial.uneven) (type_of_attribute l.uneven)
