use Rattle.std.proofs.Common.{◌≡◌, ℕ, length, take}
use Rattle.std.specs.Prelude.{Contains}
use Rattle.induced_deps.specs.Due.{IsDue}
use Rattle.induced_deps.proofs.due.mark.Given as goal

abbrev pub invariant-loop-rule : goal.invariant-loop-rule
invariant-loop-rule l = record {
  size : length l.flags ≡ length l.initial.flags;
  kept : (k : ℕ) → IsDue l.initial.flags k → IsDue l.flags k;
  marked : (k : ℕ) → Contains (take l.rule-index l.rules) k → IsDue l.flags k;
}
