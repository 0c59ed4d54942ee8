use Rattle.std.proofs.Common.{◌≡◌, ◌<◌, ◌⊎◌, ℕ, length}
use Rattle.std.specs.Prelude.{slice_index_or, IsBitSet, ◌↔◌}
use Rattle.induced_deps.proofs.row.Row.join.Given as goal

abbrev pub invariant-loop-k : goal.invariant-loop-k
invariant-loop-k l = record {
  size : length l.self.words ≡ 8;
  joined : (i b : ℕ) → IsBitSet (slice_index_or l.self.words i 0) b ↔ (IsBitSet (slice_index_or l.initial.self.words i 0) b ⊎ ((i < l.k) × IsBitSet (slice_index_or l.other.words i 0) b));
}
