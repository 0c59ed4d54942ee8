use Rattle.std.proofs.Common.{◌≡◌, take}
use Rattle.symbol_inherit.specs.Notes.{all_notes}
use Rattle.symbol_inherit.proofs.notes.symbol_notes.Given as goal

abbrev pub invariant-loop-item : goal.invariant-loop-item
invariant-loop-item l = l.notes.items ≡ all_notes l.rows (take l.item-index l.items)
