use Rattle.std.proofs.Common.{◌≡◌, ℕ, ◌⊎◌, take, length}
use Rattle.std.specs.Prelude.{Contains, ◌↔◌}
use Rattle.least_paths.specs.Graph.{IsEdge}
use Rattle.symbol_attributes.proofs.inheritance.join.Given as goal

-- the edges so far
abbrev pub invariant-loop-x : goal.invariant-loop-x
invariant-loop-x l = record {
  count : length l.graph.items ≡ length l.fn.graph.items;
  edges : (u v : ℕ) → IsEdge l.graph.items u v ↔ (IsEdge l.fn.graph.items u v ⊎ (Contains l.from u × Contains (take l.x-index l.to) v));
}
