use Rattle.std.proofs.Common.{◌≡◌, ◌⊎◌, ℕ, take, length}
use Rattle.std.specs.Prelude.{Contains, ◌↔◌}
use Rattle.least_paths.specs.Graph.{IsEdge}
use Rattle.rule_graphs.proofs.ChildrenLemmas.{numbers}
use Rattle.rule_graphs.proofs.children.add_rule.Given as goal

-- the edges so far
abbrev pub invariant-loop-s : goal.invariant-loop-s
invariant-loop-s l = record {
  count : length l.graph.items ≡ length l.fn.graph.items;
  edges : (x y : ℕ) → IsEdge l.graph.items x y ↔ (IsEdge l.fn.graph.items x y ⊎ ((l.left ≡ x) × Contains (numbers (take l.s-index l.right)) y));
}
