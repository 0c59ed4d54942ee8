use Rattle.std.proofs.Common.{◌≡◌, ℕ, ◌≤◌, Some}
use Rattle.std.specs.Prelude.{slice_get}
use Rattle.partitions.proofs.cycle.place_of.Given as goal

-- the vertex has not been met
abbrev pub invariant-loop-i : goal.invariant-loop-i
invariant-loop-i l = (j : ℕ) → slice_get l.path j ≡ Some l.u → l.i ≤ j
