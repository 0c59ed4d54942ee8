use Rattle.std.proofs.Common.{◌≡◌, ◌++◌, take}
use Rattle.symbol_inherit.specs.Notes.{body_notes}
use Rattle.symbol_inherit.proofs.notes.note_body.Given as goal

abbrev pub invariant-loop-comp : goal.invariant-loop-comp
invariant-loop-comp l = l.notes.items ≡ l.initial.notes.items ++ body_notes l.symbol (take l.comp-index l.body)
