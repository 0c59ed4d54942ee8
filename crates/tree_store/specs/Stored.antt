-- A stored node, seen as a node of a tree.
use Rattle.std.specs.Prelude.{ℕ, List, Option, option_map, map}
use Rattle.lido_base.specs.declared.ids.NodeId.{NodeId}
use Rattle.lido_base.specs.declared.value.Value.{Value}
use Rattle.lido_base.specs.Tree as tree
use Rattle.tree_store.specs.declared.tree.StoredNode.{StoredNode}
use Rattle.tree_store.specs.declared.tree.StoredItem.{StoredItem}
use Rattle.tree_store.specs.declared.tree.StoredItem.TheVariants.{Node, Terminal}

-- The number of a node that may be there.
abbrev pub number_of : Option NodeId → Option ℕ
number_of n = option_map (λ (id : NodeId). id.0) n

abbrev pub item_of : StoredItem → tree.Item Value
item_of (Node n) = tree.Child n.0
item_of (Terminal v) = tree.Leaf v

abbrev pub node_of : StoredNode → tree.Node Value
node_of s = record { rule = s.rule.0; parent = number_of s.parent; place = s.place; line = s.line; column = s.column; items = map item_of s.items.items }

-- The table of stored nodes, as a table of nodes.
abbrev pub table : List StoredNode → tree.Tree Value
table nodes = map node_of nodes
