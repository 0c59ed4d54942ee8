use Rattle.std.proofs.Common.{◌≡◌, ℕ, ◌⊎◌, take, length}
use Rattle.std.specs.Prelude.{Contains, ◌↔◌}
use Rattle.least_paths.specs.Graph.{IsEdge}
use Rattle.symbol_attributes.proofs.inheritance.add_edges.Given as goal

-- the edges so far
abbrev pub invariant-loop-y : goal.invariant-loop-y
invariant-loop-y l = record {
  count : length l.graph.items ≡ length l.fn.graph.items;
  edges : (u v : ℕ) → IsEdge l.graph.items u v ↔ (IsEdge l.fn.graph.items u v ⊎ (Contains (take l.y-index l.row) u × (v ≡ l.x)));
}
