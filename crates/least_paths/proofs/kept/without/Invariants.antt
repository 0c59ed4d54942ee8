use Rattle.std.proofs.Common.{◌≡◌, ℕ, List, Some, length}
use Rattle.std.specs.Prelude.{slice_get}
use Rattle.least_paths.specs.Without.{kept_of}
use Rattle.least_paths.proofs.kept.without.Given as goal

-- the rows so far
abbrev pub invariant-loop-x : goal.invariant-loop-x
invariant-loop-x l = record {
  count : length l.kept.items ≡ l.x;
  rows : (j : ℕ) (r : List ℕ) → slice_get l.kept.items j ≡ Some r → r ≡ kept_of l.next l.closed j;
}
