use Rattle.std.proofs.Common.{◌≡◌, ◌≤◌, take, length}
use Rattle.std.specs.Prelude.{vec_len, vec_capacity}
use Rattle.std.specs.List.{filter_map}
use Rattle.region_engine.specs.Notebooks.{told}
use Rattle.region_engine.proofs.notes.notes_of.Given as goal

-- the notes so far
abbrev pub invariant-loop-message : goal.invariant-loop-message
invariant-loop-message l = record {
  room : length l.message-items ≤ vec_capacity l.notes;
  few : vec_len l.notes ≤ l.message-index;
  notes : l.notes.items ≡ filter_map (told l.job) (take l.message-index l.message-items);
}
