-- Trees over rules: which trees fit, their text, and their nodes.
use Rattle.std.specs.Prelude.{◌≡◌, ℕ, ℤ, ◌+◌, ◌-◌, ◌^◌, ◌≤◌, ◌<◌, List, [], ◌∷◌, ◌++◌, length, Option, Some, None, slice_get, slice_index_or}
use Rattle.sum_trees.specs.declared.form.SumRule.{SumRule}
use Rattle.sum_trees.specs.declared.form.TreeNode.{TreeNode}
use Rattle.sum_trees.specs.declared.form.Element.{Element}
use Rattle.sum_trees.specs.declared.form.Child.{Child}
use Rattle.sum_trees.specs.declared.form.Element.TheVariants as elements
use Rattle.sum_trees.specs.declared.form.Child.TheVariants as children
use Rattle.sum_trees.specs.Marks.{Mark, begins, number, ends, Spells}

-- Siblings: a node, by its rule and with its children, or a number, and those that follow.
pub data Forest : Type 0 where
  none : Forest
  node : ℕ → Forest → Forest → Forest
  leaf : ℤ → Forest → Forest

-- what a number that names no rule stands for
abbrev pub no_rule : SumRule
no_rule = record { name = []; left = 0; right = []; sum = [] }

-- the rule of a number
abbrev pub rule_at : List SumRule → ℕ → SumRule
rule_at rules k = slice_index_or rules k no_rule

-- the siblings are what the elements ask for, and so are the children of each
abbrev pub Fits : List SumRule → List Element → Forest → Type 0
Fits rules [] none = Unit {0}
Fits rules (elements.Int ∷ more) (leaf z after) = Fits rules more after
Fits rules (elements.Node left ∷ more) (node k below after) = (k < length rules) × ((rule_at rules k).left ≡ left) × Fits rules (rule_at rules k).right below × Fits rules more after
Fits rules _ _ = ⊥

-- the marks of the siblings, from the left
abbrev pub marks_of : List SumRule → Forest → List Mark
marks_of rules none = []
marks_of rules (node k below after) = (begins (rule_at rules k).name ∷ marks_of rules below) ++ (ends ∷ marks_of rules after)
marks_of rules (leaf z after) = number z ∷ marks_of rules after

-- how many siblings there are
abbrev pub width : Forest → ℕ
width none = 0
width (node k below after) = width after + 1
width (leaf z after) = width after + 1

-- how many nodes there are, the siblings' descendants too
abbrev pub count : Forest → ℕ
count none = 0
count (node k below after) = 1 + count below + count after
count (leaf z after) = count after

-- what a number that names no node stands for
abbrev pub no_node : TreeNode
no_node = record { rule = 0; parent = None; place = 0; children = [] }

-- the node of a number
abbrev pub node_at : List TreeNode → ℕ → TreeNode
node_at nodes n = slice_index_or nodes n no_node

-- the child of a number, from 0, of the node p
abbrev pub child_of : List TreeNode → ℕ → ℕ → Option Child
child_of nodes p k = slice_get (node_at nodes p).children k

-- the node n has the rule r, the parent p, the place k there, and w children
pub record IsNode (nodes : List TreeNode) (n r : ℕ) (p : Option ℕ) (k w : ℕ) : Type 0 where
  pub there : n < length nodes
  pub rule : (node_at nodes n).rule ≡ r
  pub parent : (node_at nodes n).parent ≡ p
  pub place : (node_at nodes n).place ≡ k
  pub width : length (node_at nodes n).children ≡ w

-- The siblings are the children of p behind its first k, and the nodes from n on, in preorder.
abbrev pub Shows : List TreeNode → ℕ → ℕ → ℕ → Forest → Type 0
Shows nodes n p k none = Unit {0}
Shows nodes n p k (node rule below after) = (child_of nodes p k ≡ Some (children.Node n)) × IsNode nodes n rule (Some p) (k + 1) (width below)
    × Shows nodes (n + 1) n 0 below × Shows nodes (n + 1 + count below) p (k + 1) after
Shows nodes n p k (leaf z after) = (child_of nodes p k ≡ Some (children.Int z)) × Shows nodes n p (k + 1) after

-- the most nodes that a tree may have
abbrev pub most_nodes : ℕ
most_nodes = 1048576

-- the bytes are the text of a tree that fits the rules, whose nodes are these, in preorder, and whose first node has rule 0
pub record IsTree (rules : List SumRule) (bytes : List ℕ) (nodes : List TreeNode) : Type 0 where
  pub below : Forest
  pub fits : Fits rules (rule_at rules 0).right below
  pub text : Spells (marks_of rules (node 0 below none)) bytes
  pub top : IsNode nodes 0 0 None 0 (width below)
  pub shows : Shows nodes 1 0 0 below
  pub all : length nodes ≡ 1 + count below
  pub few : length nodes ≤ most_nodes

-- each child is behind its node
abbrev pub IsPreorder : List TreeNode → Type 0
IsPreorder nodes = (p k n : ℕ) → p < length nodes → child_of nodes p k ≡ Some (children.Node n) → (p < n) × (n < length nodes)

-- each node has a rule
abbrev pub IsRuled : List SumRule → List TreeNode → Type 0
IsRuled rules nodes = (n : ℕ) → n < length nodes → (node_at nodes n).rule < length rules

-- no two rules have one name
abbrev pub HasDistinctNames : List SumRule → Type 0
HasDistinctNames rules = (i j : ℕ) → i < length rules → j < length rules → (rule_at rules i).name ≡ (rule_at rules j).name → i ≡ j

-- rules by which a tree can be read: a first one, distinct names, and no more rules and elements than can be numbered
pub record IsReadable (rules : List SumRule) : Type 0 where
  pub some : 0 < length rules
  pub small : length rules < 2 ^ 32
  pub few : (k : ℕ) → k < length rules → length (rule_at rules k).right < 2 ^ 32 - 1
  pub distinct : HasDistinctNames rules
