use Rattle.std.proofs.Common.{◌+◌, ◌≤◌, ℕ}
use Rattle.std.specs.Prelude.{slice_index_or, IsBitSet}
use Rattle.induced_deps.proofs.row.Row.first_beside.Given as goal

abbrev pub invariant-loop-k : goal.invariant-loop-k
invariant-loop-k l = (i b : ℕ) → 8 ≤ i + l.k → IsBitSet (slice_index_or l.self.words i 0) b → IsBitSet (slice_index_or l.other.words i 0) b
