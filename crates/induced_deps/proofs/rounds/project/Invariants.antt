use Rattle.std.proofs.Common.{◌≡◌, ◌<◌, ◌≤◌, ℕ, length, map, take}
use Rattle.std.specs.Prelude.{◌⊎◌, IsTrue, IsFalse}
use Rattle.induced_deps.specs.Rounds.{IsBit, IsProjected, rows_of, room_of_all, Tells}
use Rattle.induced_deps.proofs.rounds.project.Given as goal

abbrev pub invariant-loop-place : goal.invariant-loop-place
invariant-loop-place l = record {
  sizes : map length l.ids ≡ map length l.initial.ids;
  sound : (x a b : ℕ) → IsBit (rows_of l.ids x) a b → IsBit (rows_of l.initial.ids x) a b ⊎ IsProjected l.places l.closure.rows.items x a b;
  tells : Tells l.initial.due l.due l.initial.ids l.ids;
  still : IsFalse l.grew → l.due ≡ l.initial.due;
  same : IsFalse l.grew → l.ids ≡ l.initial.ids;
  all : IsFalse l.grew → (x a b : ℕ) → IsProjected (take l.place-index l.places) l.closure.rows.items x a b → IsBit (rows_of l.ids x) a b;
  lighter : room_of_all l.ids ≤ room_of_all l.initial.ids;
  less : IsTrue l.grew → room_of_all l.ids < room_of_all l.initial.ids;
}
