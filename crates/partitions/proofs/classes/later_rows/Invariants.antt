use Rattle.std.proofs.Common.{◌≡◌, ℕ, Some, length}
use Rattle.std.specs.Prelude.{slice_get, IsBitSet, ◌↔◌}
use Rattle.partitions.specs.Peeling.{IsPastAmong}
use Rattle.partitions.proofs.classes.later_rows.Given as goal

-- the rows so far
abbrev pub invariant-loop-k : goal.invariant-loop-k
invariant-loop-k l = record {
  count : length l.rows.items ≡ l.k;
  bits : (a row : ℕ) → slice_get l.rows.items a ≡ Some row → (b : ℕ) → IsBitSet row b ↔ IsPastAmong l.all a b;
}
