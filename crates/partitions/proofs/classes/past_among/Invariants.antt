use Rattle.std.proofs.Common.{◌≡◌, ℕ, ◌<◌, Some}
use Rattle.std.specs.Prelude.{slice_get, IsBitSet, ◌↔◌}
use Rattle.partitions.specs.declared.peeling.Levels.{Levels}
use Rattle.partitions.specs.Peeling.{IsPast}
use Rattle.partitions.proofs.classes.past_among.Given as goal

-- what is past by the sets so far
abbrev pub invariant-loop-levels : goal.invariant-loop-levels
invariant-loop-levels l = (b : ℕ) → IsBitSet l.row b ↔ ((j : ℕ) × (levels : Levels) × (j < l.levels-index) × (slice_get l.all j ≡ Some levels) × IsPast levels l.k b)
