use Rattle.std.proofs.Common.{◌≡◌, ℕ, List, [], Some, length}
use Rattle.std.specs.Prelude.{slice_get}
use Rattle.partitions.proofs.edges.bare_graph.Given as goal

-- so many vertices without predecessors
abbrev pub invariant-loop : goal.invariant-loop
invariant-loop l = record {
  count : length l.preds.items ≡ l.counter;
  none : (v : ℕ) (row : List ℕ) → slice_get l.preds.items v ≡ Some row → row ≡ [];
}
