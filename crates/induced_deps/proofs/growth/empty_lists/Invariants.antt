use Rattle.std.proofs.Common.{◌≡◌, ℕ, length}
use Rattle.induced_deps.specs.Due.{IsUser}
use Rattle.induced_deps.proofs.growth.empty_lists.Given as goal

abbrev pub invariant-loop : goal.invariant-loop
invariant-loop l = record {
  size : length l.lists.items ≡ l.counter;
  none : (x k : ℕ) → IsUser l.lists.items x k → ⊥;
}
