use Rattle.std.proofs.Common.{◌≡◌, ℕ, length}
use Rattle.std.specs.Prelude.{◌↔◌}
use Rattle.least_paths.specs.Graph.{IsEdge}
use Rattle.rule_graphs.specs.Children.{IsRuleEdge}
use Rattle.rule_graphs.proofs.children.rule_graph.Given as goal

-- the edges of the rules so far
abbrev pub invariant-loop-i : goal.invariant-loop-i
invariant-loop-i l = record {
  size : length l.graph.items ≡ l.count;
  edges : (x y : ℕ) → IsEdge l.graph.items x y ↔ IsRuleEdge l.rules l.closed l.i x y;
}
