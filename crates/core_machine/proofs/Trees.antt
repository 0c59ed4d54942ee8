-- Subtrees of a tree.
use Rattle.std.specs.Prelude.{slice_get, option_and_then, nat_lt}
use Rattle.std.proofs.Common.{◌≡◌, ℕ, zero, suc, ◌<◌, ◌≤◌, length, Option, Some, None, refl, arith, ap, sym, subst, ◌∙◌}
use Rattle.std.proofs.lemmas.Option.{none-some}
use Rattle.lido_base.specs.Tree.{Tree, Item, Child, Leaf, child_number, children, items_of, parent_of, place_of, is_just, IsTree}
use Rattle.lido_base.proofs.TreeLemmas.{children_behind, parent_before, both, test-contains, is_just-some}
use Rattle.lido_base.proofs.PathLemmas.{child_of_parent}
use Rattle.flat_grammar.specs.WholeOrder.{child_at}
use Rattle.flat_grammar.proofs.Lists.{held}
use Rattle.flat_grammar.proofs.WholeOrderLemmas.{child_at-child}

number-child : {V : Type 0} (o : Option (Item V)) (c : ℕ) → option_and_then child_number o ≡ Some c → o ≡ Some (Child c)
number-child None c e = absurd (none-some _ e)
number-child (Some (Child d)) c e = ap (λ n. Some (Child n)) (held e)
number-child (Some (Leaf v)) c e = absurd (none-some _ e)

module _ {V : Type 0} (t : Tree V) (w : IsTree t) where
  pub record ChildFacts (n k c : ℕ) : Type 0 where
    pub place : ℕ
    pub occ : k ≡ suc place
    pub item : slice_get (items_of t n) place ≡ Some (Child c)
    pub parent : parent_of t c ≡ Some n
    pub placed : place_of t c ≡ k
    pub later : n < c
    pub inside : c < length t

  -- a child at an occurrence has the node as its parent, and stands behind it
  pub child-facts : (n k c : ℕ) → child_at t n k ≡ Some c → ChildFacts n k c
  child-facts n zero c e = absurd (none-some _ e)
  child-facts n (suc k) c e =
      let item = number-child (slice_get (items_of t n) k) c e in
      let m = child_at-child t n (suc k) c e in
      let behind = children_behind t w n c m in
      let a = both (nat_lt c (length t)) (is_just n (parent_of t c)) (sym (w.items_agree n c) ∙ test-contains c (children t n) m) in
      record { place = k; occ = refl; item = item; parent = is_just-some n (parent_of t c) a.1; placed = w.places_agree n k c item; later = behind.0; inside = behind.1 }

  -- each node but the root stands at an occurrence of its parent
  pub parent-child : (d p : ℕ) → d < length t → parent_of t d ≡ Some p → (k : ℕ) × (child_at t p (suc k) ≡ Some d)
  parent-child d p h e = let q = child_of_parent t w d p h e in (q.0, ap (option_and_then child_number) q.1)

  -- d is n, or stands below it
  pub data Sub (n : ℕ) : ℕ → Type 0 where
    here : Sub n n
    below : {p d : ℕ} → Sub n p → parent_of t d ≡ Some p → Sub n d

  pub sub-later : (n d : ℕ) → Sub n d → n ≤ d
  sub-later n d here = omega arith
  sub-later n d (below {p} s f) = let a = sub-later n p s in let b = parent_before t w d p f in omega arith

  pub sub-child : (n c d : ℕ) → parent_of t c ≡ Some n → Sub c d → Sub n d
  sub-child n c d e here = below here e
  sub-child n c d e (below {p} s g) = below (sub-child n c p e s) g

  -- the subtrees of two children have no node in common
  pub siblings : (n c b d : ℕ) → parent_of t c ≡ Some n → parent_of t b ≡ Some n → Sub c d → Sub b d → c ≡ b
  siblings n c b d e f here here = refl
  siblings n c b d e f here (below {p} s g) = let same : p ≡ n = held (sym g ∙ e) in let a = sub-later b p s in let q = parent_before t w b n f in absurd (omega arith)
  siblings n c b d e f (below {p} s g) here = let same : p ≡ n = held (sym g ∙ f) in let a = sub-later c p s in let q = parent_before t w c n e in absurd (omega arith)
  siblings n c b d e f (below {p} s g) (below {p = q} s' g') = siblings n c b p e f s (subst (λ z. Sub b z) (held (sym g' ∙ g)) s')
