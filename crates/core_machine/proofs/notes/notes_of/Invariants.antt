use Rattle.std.proofs.Common.{◌≡◌, ◌≤◌, map, take, length}
use Rattle.std.specs.Prelude.{vec_len, vec_capacity}
use Rattle.core_machine.specs.Notes.{note_of}
use Rattle.core_machine.proofs.notes.notes_of.Given as goal

-- the notes so far
abbrev pub invariant-loop-entry : goal.invariant-loop-entry
invariant-loop-entry l = record {
  room : length l.entry-items ≤ vec_capacity l.notes;
  len : vec_len l.notes ≡ l.entry-index;
  notes : l.notes.items ≡ map note_of (take l.entry-index l.entry-items);
}
