use Rattle.std.proofs.Common.{◌≡◌, ℕ, List, [], length, Some}
use Rattle.std.specs.Prelude.{slice_get}
use Rattle.least_paths.proofs.edges.bare.Given as goal

-- so many vertices without edges
abbrev pub invariant-loop : goal.invariant-loop
invariant-loop l = record {
  count : length l.back.items ≡ l.counter;
  none : (v : ℕ) (row : List ℕ) → slice_get l.back.items v ≡ Some row → row ≡ [];
}
