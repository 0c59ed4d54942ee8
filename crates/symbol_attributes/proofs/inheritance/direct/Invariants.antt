use Rattle.std.proofs.Common.{◌≡◌, ℕ, take, length}
use Rattle.std.specs.Prelude.{◌↔◌}
use Rattle.least_paths.specs.Graph.{IsEdge}
use Rattle.symbol_attributes.specs.Inheritance.{IsDirectEdge}
use Rattle.symbol_attributes.proofs.inheritance.direct.Given as goal

-- the edges of the items so far
abbrev pub invariant-loop-item : goal.invariant-loop-item
invariant-loop-item l = record {
  count : length l.graph.items ≡ length l.numbers;
  edges : (u v : ℕ) → IsEdge l.graph.items u v ↔ IsDirectEdge l.numbers (take l.item-index l.items) u v;
}
