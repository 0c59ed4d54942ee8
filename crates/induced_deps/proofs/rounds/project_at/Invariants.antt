use Rattle.std.proofs.Common.{◌≡◌, ◌+◌, ◌<◌, ◌≤◌, ℕ, length}
use Rattle.std.specs.Prelude.{◌↔◌, ◌⊎◌, IsTrue, IsFalse}
use Rattle.induced_deps.specs.Rows.{Has}
use Rattle.induced_deps.specs.Rounds.{IsBit, room_of_rows}
use Rattle.induced_deps.proofs.rounds.project_at.Given as goal

abbrev pub invariant-loop-a : goal.invariant-loop-a
invariant-loop-a l = record {
  size : length l.rows ≡ length l.initial.rows;
  bits : (k b : ℕ) → IsBit l.rows k b ↔ (IsBit l.initial.rows k b ⊎ ((k < l.a) × (b < l.place.width) × Has l.closure.rows.items (l.place.offset + k) (l.place.offset + b)));
  same : IsFalse l.grew → l.rows ≡ l.initial.rows;
  lighter : room_of_rows l.rows ≤ room_of_rows l.initial.rows;
  less : IsTrue l.grew → room_of_rows l.rows < room_of_rows l.initial.rows;
}
