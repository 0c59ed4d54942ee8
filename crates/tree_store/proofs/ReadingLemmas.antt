-- What readers of a tree's nodes can rely on.
use Rattle.std.specs.Prelude.{IsSome}
use Rattle.std.proofs.Common.{◌≡◌, ℕ, zero, suc, ◌<◌, [], ◌∷◌, length, Option, Some, None, refl, sym, ◌∙◌, arith, add-one}
use Rattle.lido_base.specs.Tree.{Tree, Item, Child, IsTree, parent_of, place_of, items_of, item_at}
use Rattle.lido_base.proofs.TreeLemmas.{children_behind}
use Rattle.lido_base.proofs.PathLemmas.{Contains-child, child_of_parent, parent_there}

-- what an option that is one holds
pub there_is : {X : Type 0} (o : Option X) → IsSome o → (x : X) × (o ≡ Some x)
there_is None e = cc
there_is (Some x) e = (x, refl)

module _ {V : Type 0} (t : Tree V) where
  pub item_inside : (n place : ℕ) (x : Item V) → item_at t n place ≡ Some x → n < length t
  item_inside n zero x e = cc
  item_inside n (suc k) x e = go t n e
    where
      go : (t : Tree V) (n : ℕ) → item_at t n (suc k) ≡ Some x → n < length t
      go [] n e = cc
      go (node ∷ t) zero e = omega arith
      go (node ∷ t) (suc n) e = let b = go t n e in omega (arith, b)

  module _ (tree : IsTree t) where
    pub no_parent_at_root : (n : ℕ) → n < length t → parent_of t n ≡ None → n ≡ 0
    no_parent_at_root zero h e = refl
    no_parent_at_root (suc n) h e = let there = parent_there t tree n (omega arith) in absurd (some_none (sym (rw add-one at there.1) ∙ e))
      where
        some_none : {p : ℕ} → Some p ≡ None → ⊥
        some_none e = cc

    pub no_place_at_root : (n : ℕ) → n < length t → place_of t n ≡ 0 → n ≡ 0
    no_place_at_root zero h e = refl
    no_place_at_root (suc n) h e = let there = parent_there t tree n (omega arith) in
        let item = child_of_parent t tree (suc n) there.0 h (rw add-one at there.1) in
        let place = tree.places_agree there.0 item.0 (suc n) item.1 in omega (arith, place, e)

    -- a child stands behind its parent
    pub child_behind : (n place c : ℕ) → item_at t n place ≡ Some (Child c) → (n < c) × (c < length t)
    child_behind n zero c e = cc
    child_behind n (suc k) c e = children_behind t tree n c (Contains-child (items_of t n) k c e)
