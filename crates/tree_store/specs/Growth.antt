-- How a tree grows in preorder: where the next item can stand.
use Rattle.std.specs.Prelude.{◌≡◌, ℕ, suc, ◌<◌, ◌⊎◌, [], length, Option, Some, None, Contains}
use Rattle.lido_base.specs.Tree.{Tree, Leaf, IsTree, ancestors, item_at}

-- A table without nodes, or a tree.
abbrev pub IsEmptyOrTree : {V : Type 0} → Tree V → Type 0
IsEmptyOrTree t = 0 < length t → IsTree t

-- The node that was added last, or one of its ancestors: in preorder these can still get items.
abbrev pub IsOpen : {V : Type 0} → Tree V → ℕ → Type 0
IsOpen t p = (last : ℕ) × (length t ≡ suc last) × ((p ≡ last) ⊎ Contains (ancestors t last) p)

-- The parent that the next node can have: none where it is the first node, else an open node.
abbrev pub IsNext : {V : Type 0} → Tree V → Option ℕ → Type 0
IsNext t None = t ≡ []
IsNext t (Some p) = IsOpen t p

-- A terminal stands at this place of node n.
abbrev pub IsTerminal : {V : Type 0} → Tree V → ℕ → ℕ → Type 0
IsTerminal {V} t n place = (v : V) × (item_at t n place ≡ Some (Leaf v))
