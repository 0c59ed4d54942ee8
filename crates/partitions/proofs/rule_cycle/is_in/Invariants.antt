use Rattle.std.proofs.Common.{◌≡◌, ℕ, ◌<◌, Some}
use Rattle.std.specs.Prelude.{slice_get}
use Rattle.partitions.proofs.rule_cycle.is_in.Given as goal

-- the number has not been met
abbrev pub invariant-loop-v : goal.invariant-loop-v
invariant-loop-v l = (j v : ℕ) → j < l.v-index → slice_get l.row j ≡ Some v → ¬ (v ≡ l.u)
