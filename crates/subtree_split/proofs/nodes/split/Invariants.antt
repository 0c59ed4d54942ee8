use Rattle.std.proofs.Common.{◌≡◌, ◌-◌, map, take, filter}
use Rattle.std.specs.List.{range_with_len}
use Rattle.lido_base.specs.declared.ids.NodeId.{NodeId as Id}
use Rattle.subtree_split.specs.SplitNodes.{is_splittable, most_split_nodes}
use Rattle.subtree_split.proofs.nodes.split.Given as goal

-- the split nodes so far
abbrev pub invariant-loop-n : goal.invariant-loop-n
invariant-loop-n l = map (λ (m : Id). m.0) l.nodes.items ≡ take most_split_nodes
    (filter (is_splittable l.flat.symbols l.flat.rules l.flat.shapes l.names l.min l.trees.written l.trees.flat l.trees.node_of) (range_with_len 1 (l.n - 1)))
