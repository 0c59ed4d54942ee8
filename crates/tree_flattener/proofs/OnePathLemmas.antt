-- What a table in preorder says of the node behind the first ones.
use Rattle.std.specs.Prelude.{Contains, IsTrue, nat_eq, slice_get}
use Rattle.std.proofs.Common.{◌≡◌, ℕ, zero, suc, ◌<◌, ◌≤◌, ◌⊎◌, inl, inr, [], ◌∷◌, length, Option, Some, None, refl, ap, sym, subst, ◌∙◌, arith, add-one, eqb-true}
use Rattle.std.proofs.Math.Nat.{eq-or-lt_of_le}
use Rattle.lido_base.specs.Tree.{Tree, Item, Child, IsTree, rule_at, parent_of, place_of, items_of, ancestors, contains, continues}
use Rattle.lido_base.proofs.TreeLemmas.{parent_before, ancestors-root, ancestors-child, contains-cons, contains-test, either}
use Rattle.lido_base.proofs.PathLemmas.{child_of_parent, parent_there, with_parent_inside}

pub same_child : {V : Type 0} {o : Option (Item V)} (c d : ℕ) → o ≡ Some (Child c) → o ≡ Some (Child d) → c ≡ d
same_child c d e f = cc

pub same_held : {X : Type 0} {o : Option X} (x y : X) → o ≡ Some x → o ≡ Some y → x ≡ y
same_held x y e f = cc

-- a node of the table has a rule, and what has a rule is one
module _ {V : Type 0} where
  pub rule_there : (t : Tree V) (n : ℕ) → n < length t → (i : ℕ) × (rule_at t n ≡ Some i)
  rule_there [] n h = absurd (omega arith)
  rule_there (node ∷ t) zero h = (node.rule, refl)
  rule_there (node ∷ t) (suc n) h = rule_there t n (omega arith)

  pub rule_inside : (t : Tree V) (n i : ℕ) → rule_at t n ≡ Some i → n < length t
  rule_inside [] n i e = cc
  rule_inside (node ∷ t) zero i e = omega arith
  rule_inside (node ∷ t) (suc n) i e = let h = rule_inside t n i e in omega arith

module _ {V : Type 0} (t : Tree V) (tree : IsTree t) where
  -- p is the node x or stands above it
  data IsAbove (p : ℕ) : ℕ → Type 0 where
    here : {x : ℕ} → p ≡ x → IsAbove p x
    up : {x : ℕ} (q : ℕ) → parent_of t x ≡ Some q → IsAbove p q → IsAbove p x

  above_above : (p q x : ℕ) → IsAbove p q → IsAbove q x → IsAbove p x
  above_above p q x a (here e) = subst (IsAbove p) e a
  above_above p q x a (up r e b) = up r e (above_above p q r a b)

  above_low : (p x : ℕ) → IsAbove p x → p ≤ x
  above_low p x (here e) = omega arith
  above_low p x (up r e b) = let l = above_low p r b in let h = parent_before t tree x r e in omega arith

  above_from_once : (x p : ℕ) (o : Option ℕ) → parent_of t x ≡ o → Contains (ancestors t x) p
      → ((q : ℕ) → q < x → Contains (ancestors t q) p → IsAbove p q) → IsAbove p x
  above_from_once x p None e among higher = let none = rw (ancestors-root t x e) at among in absurd (omega (arith, none.1))
  above_from_once x p (Some q) e among higher = up q e (go (contains-cons q p (ancestors t q) (rw (ancestors-child t tree x q e) at among)))
    where
      go : (q ≡ p) ⊎ Contains (ancestors t q) p → IsAbove p q
      go (inl same) = here (sym same)
      go (inr above) = higher q (parent_before t tree x q e) above

  above_from : (k x p : ℕ) → x ≤ k → Contains (ancestors t x) p → IsAbove p x
  above_from zero x p b among = above_from_once x p (parent_of t x) refl among (λ q h a. absurd (omega arith))
  above_from (suc k) x p b among = above_from_once x p (parent_of t x) refl among (λ q h a. above_from k q p (omega arith) a)

  -- the parent of the node behind y is y or stands above it
  preorder : (y q : ℕ) → parent_of t (suc y) ≡ Some q → IsAbove q y
  preorder y q e = let inside = with_parent_inside t (suc y) q e in
      let h = subst (λ o. IsTrue (continues t y o)) (ap (parent_of t) (add-one y) ∙ e) (tree.in_preorder y (omega arith)) in
      go (either (nat_eq q y) (contains q (ancestors t y)) h)
    where
      go : IsTrue (nat_eq q y) ⊎ IsTrue (contains q (ancestors t y)) → IsAbove q y
      go (inl same) = here (eqb-true q y same)
      go (inr among) = above_from y y q (omega arith) (contains-test q (ancestors t y) among)

  back_one : (p y : ℕ) → p ≤ y → IsAbove p (suc y) → IsAbove p y
  back_one p y h (here e) = absurd (omega arith)
  back_one p y h (up q e b) = above_above p q y b (preorder y q e)

  back : (c p k : ℕ) → p ≤ k → k < c → IsAbove p c → IsAbove p (suc k)
  back zero p k low high a = absurd (omega arith)
  back (suc c) p k low high a = let b : k ≤ c = omega arith in go (eq-or-lt_of_le b) (back c p k low)
    where
      go : (k ≡ c) ⊎ (k < c) → (k < c → IsAbove p c → IsAbove p (suc k)) → IsAbove p (suc k)
      go (inl same) ih = subst (λ x. IsAbove p (suc x)) (sym same) a
      go (inr less) ih = ih less (back_one p c (omega arith) a)

  -- Of the nodes up to k, the parent of the node behind them is the last that gets more children.
  pub last_parent : (p q k c : ℕ) → parent_of t c ≡ Some p → p ≤ k → k < c → parent_of t (suc k) ≡ Some q → p ≤ q
  last_parent p q k c e low high f = go (back c p k low high (up p e (here refl)))
    where
      go : IsAbove p (suc k) → p ≤ q
      go (here same) = absurd (omega arith)
      go (up r g b) = let l = above_low p r b in let same : r ≡ q = same_held r q g f in omega arith

  -- a node stands among its parent's items
  pub own_item : (c p : ℕ) → parent_of t c ≡ Some p → (j : ℕ) × (slice_get (items_of t p) j ≡ Some (Child c)) × (place_of t c ≡ suc j)
  own_item c p e = let at = child_of_parent t tree c p (with_parent_inside t c p e) e in (at.0, at.1, tree.places_agree p at.0 c at.1)

  -- and at its place
  pub item_at_place : (c p j : ℕ) → parent_of t c ≡ Some p → place_of t c ≡ suc j → slice_get (items_of t p) j ≡ Some (Child c)
  item_at_place c p j e place = let at = own_item c p e in let same : at.0 ≡ j = let f = at.2 in omega arith in
      subst (λ i. slice_get (items_of t p) i ≡ Some (Child c)) same at.1

  -- each node but the root has a parent before it
  pub some_parent : (k : ℕ) → suc k < length t → (p : ℕ) × (parent_of t (suc k) ≡ Some p) × (p ≤ k)
  some_parent k h = let there = parent_there t tree k (omega arith) in
      let e : parent_of t (suc k) ≡ Some there.0 = rw add-one at there.1 in let b = parent_before t tree (suc k) there.0 e in
      (there.0, e, omega arith)
