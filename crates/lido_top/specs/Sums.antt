-- Assignments of a number to each node of a tree, and the sums at the nodes.
use Rattle.std.specs.Prelude.{◌≡◌, ℕ, ℤ, ◌-◌, ◌<◌, pos, ◌+ℤ◌, List, [], ◌∷◌, length, Option, Some, None, slice_get, slice_index_or, FitsSigned}
use Rattle.std.specs.Int.{w64}
use Rattle.sum_trees.specs.declared.form.SumRule.{SumRule}
use Rattle.sum_trees.specs.declared.form.TreeNode.{TreeNode}
use Rattle.sum_trees.specs.declared.form.Child.{Child}
use Rattle.sum_trees.specs.declared.form.Child.TheVariants as children
use Rattle.sum_trees.specs.Trees.{rule_at, node_at}

-- the value of a node, by its number
abbrev pub value_at : List ℤ → ℕ → ℤ
value_at values n = slice_index_or values n (pos 0)

-- the value of a child, given those of the nodes
abbrev pub child_value : List ℤ → Option Child → ℤ
child_value values None = pos 0
child_value values (Some (children.Node n)) = value_at values n
child_value values (Some (children.Int z)) = z

-- the value at a place, from 1, of a node's children
abbrev pub place_value : List ℤ → TreeNode → ℕ → ℤ
place_value values node place = child_value values (slice_get node.children (place - 1))

-- the values at the places, added from the left to what came before
abbrev pub sum_after : List ℤ → TreeNode → ℤ → List ℕ → ℤ
sum_after values node before [] = before
sum_after values node before (place ∷ places) = sum_after values node (before +ℤ place_value values node place) places

-- each sum on the way is a number of 64 bits
abbrev pub Stays : List ℤ → TreeNode → ℤ → List ℕ → Type 0
Stays values node before [] = Unit {0}
Stays values node before (place ∷ places) = FitsSigned w64 (before +ℤ place_value values node place) × Stays values node (before +ℤ place_value values node place) places

-- the places that the rule of a node adds
abbrev pub places_of : List SumRule → List TreeNode → ℕ → List ℕ
places_of rules nodes n = (rule_at rules (node_at nodes n).rule).sum

-- what the rule of a node makes of its children's values
abbrev pub sum_at : List SumRule → List TreeNode → List ℤ → ℕ → ℤ
sum_at rules nodes values n = sum_after values (node_at nodes n) (pos 0) (places_of rules nodes n)

-- the attribute of each node is its sum
pub record IsAttribution (rules : List SumRule) (nodes : List TreeNode) (values : List ℤ) : Type 0 where
  pub all : length values ≡ length nodes
  pub each : (n : ℕ) → n < length nodes → value_at values n ≡ sum_at rules nodes values n

-- and there is no other assignment of which this is true
pub record IsOnlyAttribution (rules : List SumRule) (nodes : List TreeNode) (values : List ℤ) : Type 0 where
  pub meets : IsAttribution rules nodes values
  pub only : (others : List ℤ) → IsAttribution rules nodes others → others ≡ values

-- the sum at a node stays in 64 bits
abbrev pub StaysAt : List SumRule → List TreeNode → List ℤ → ℕ → Type 0
StaysAt rules nodes values n = Stays values (node_at nodes n) (pos 0) (places_of rules nodes n)

-- so does the sum at each node
abbrev pub AllStay : List SumRule → List TreeNode → List ℤ → Type 0
AllStay rules nodes values = (n : ℕ) → n < length nodes → StaysAt rules nodes values n
