use Rattle.std.proofs.Common.{◌≡◌, ◌≤◌, ◌+◌, ◌-◌, max, ℕ, length}
use Rattle.ptg_patterns.specs.Tables.{type_at}
use Rattle.ptg_patterns.proofs.arguments.grow.Given as goal

abbrev pub invariant-loop-types : goal.invariant-loop-types
invariant-loop-types l = record {
  size : length l.types.items ≤ max (length l.initial.types.items) (l.number + 1);
  grown : length l.initial.types.items ≤ length l.types.items;
  kept : (j : ℕ) → type_at l.types.items j ≡ type_at l.initial.types.items j;
}

abbrev pub decreases-loop-types : goal.decreases-loop-types
decreases-loop-types l = l.number + 1 - length l.types.items
