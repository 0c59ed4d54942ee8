use Rattle.std.proofs.Common.{◌≡◌, ℕ, length}
use Rattle.induced_deps.specs.Rows.{Has}
use Rattle.induced_deps.proofs.closure.Closure.new.Given as goal

abbrev pub invariant-loop : goal.invariant-loop
invariant-loop l = record {
  size : length l.rows.items ≡ l.counter;
  none : (v w : ℕ) → Has l.rows.items v w → ⊥;
}
