-- Subtrees: a node, and all that is below it.
use Rattle.std.specs.Prelude.{◌≡◌, ◌⊎◌, ℕ, Contains}
use Rattle.lido_base.specs.Tree.{Tree, ancestors}

-- Node n is in the subtree of node m: it is m, or m is one of its ancestors.
abbrev pub IsInSubtree : {V : Type 0} → Tree V → ℕ → ℕ → Type 0
IsInSubtree t m n = (m ≡ n) ⊎ Contains (ancestors t n) m
