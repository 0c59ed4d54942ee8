use Rattle.std.proofs.Common.{◌≡◌, ◌+◌, ◌≤◌, ℕ, length}
use Rattle.induced_deps.specs.Rows.{IsClosedAt, Nothing, Gains}
use Rattle.induced_deps.proofs.closure.Closure.close.Given as goal

abbrev pub invariant-loop-k : goal.invariant-loop-k
invariant-loop-k l = record {
  size : length l.self.rows.items ≡ length l.initial.self.rows.items;
  closed : (v : ℕ) → length l.initial.self.rows.items ≤ v + l.k → IsClosedAt l.self.rows.items v;
  edges : Gains l.initial.self.rows.items l.self.rows.items Nothing;
}
