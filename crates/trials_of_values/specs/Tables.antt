-- Tables for the trials of trees. Rule 0 is a list, rule 1 an item with a number, rule 2 a group behind a number.
use Rattle.std.specs.Prelude.{ℕ, ◌+◌, List, [], ◌∷◌, Option, Some, None, map, sum}
use Rattle.lido_base.specs.Tree.{Tree, Node, Item, Child, Leaf, children, with_item, with_node}

abbrev pub node : ℕ → Option ℕ → ℕ → List (Item ℕ) → Node ℕ
node rule parent place items = record { rule = rule; parent = parent; place = place; line = 0; column = 0; items = items }

-- A list of three items, the second of which is a group with two.
abbrev pub listed : Tree ℕ
listed =
    node 0 None 0 (Child 1 ∷ Child 2 ∷ Child 5 ∷ [])
    ∷ node 1 (Some 0) 1 (Leaf 10 ∷ [])
    ∷ node 2 (Some 0) 2 (Leaf 7 ∷ Child 3 ∷ Child 4 ∷ [])
    ∷ node 1 (Some 2) 2 (Leaf 20 ∷ [])
    ∷ node 1 (Some 2) 3 (Leaf 30 ∷ [])
    ∷ node 1 (Some 0) 3 (Leaf 40 ∷ [])
    ∷ []

-- The same, built node by node in preorder, each terminal after its node.
abbrev pub built : Tree ℕ
built =
    let root = with_node [] 0 None 0 0 in
    let first = with_item (with_node root 1 (Some 0) 0 0) 1 (Leaf 10) in
    let second = with_item (with_node first 2 (Some 0) 0 0) 2 (Leaf 7) in
    let third = with_item (with_node second 1 (Some 2) 0 0) 3 (Leaf 20) in
    let fourth = with_item (with_node third 1 (Some 2) 0 0) 4 (Leaf 30) in
    with_item (with_node fourth 1 (Some 0) 0 0) 5 (Leaf 40)

-- The root, and node 2, which says that the root is its parent, while no node has it as a child.
abbrev pub orphan : Tree ℕ
orphan = node 0 None 0 (Child 1 ∷ []) ∷ node 1 (Some 0) 1 [] ∷ node 1 (Some 0) 2 [] ∷ []

-- Node 3 is a child of node 1, and stands behind its uncle.
abbrev pub misplaced : Tree ℕ
misplaced = node 0 None 0 (Child 1 ∷ Child 2 ∷ []) ∷ node 0 (Some 0) 1 (Child 3 ∷ []) ∷ node 1 (Some 0) 2 [] ∷ node 1 (Some 1) 1 [] ∷ []

-- The second child says that it stands at the third place.
abbrev pub shifted : Tree ℕ
shifted = node 0 None 0 (Child 1 ∷ Child 2 ∷ []) ∷ node 1 (Some 0) 1 [] ∷ node 1 (Some 0) 3 [] ∷ []

-- The root's children, the later one first.
abbrev pub swapped : Tree ℕ
swapped = node 0 None 0 (Child 2 ∷ Child 1 ∷ []) ∷ node 1 (Some 0) 2 [] ∷ node 1 (Some 0) 1 [] ∷ []

-- How many nodes stand in the subtree of a node.
abbrev pub count_below : (ℕ → ℕ) → ℕ → ℕ
count_below count n = 1 + sum (map count (children listed n))
