-- On the way up to a node.
use Rattle.std.specs.Prelude.{Contains}
use Rattle.std.proofs.Common.{◌≡◌, ℕ, ◌⊎◌, inl, inr, Some, sym}
use Rattle.lido_base.specs.Tree.{IsTree, parent_of, ancestors}
use Rattle.tree_flattener.specs.Drafts.{Table, IsOnPath}
use Rattle.lido_base.proofs.PathLemmas.{above_self}

pub further_up : (W : Table) (m to : ℕ) → IsOnPath W m to → (m ≡ to → ⊥) → Contains (ancestors W m) to
further_up W m to (inl same) other = absurd (other (sym same))
further_up W m to (inr above) other = above

pub still_around : (W : Table) → IsTree W → (m p to : ℕ) → parent_of W m ≡ Some p → Contains (ancestors W m) to → IsOnPath W p to
still_around W tree m p to up above = go (above_self W tree m p to up above)
  where
    go : (p ≡ to) ⊎ Contains (ancestors W p) to → IsOnPath W p to
    go (inl same) = inl (sym same)
    go (inr higher) = inr higher
