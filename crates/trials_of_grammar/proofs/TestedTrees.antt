-- Tests that decide that a table is a tree.
use Rattle.std.specs.Prelude.{filter_map, slice_get, slice_index, nat_eq, nat_lt, Bool, true, false, IsTrue, ◌&&◌, not}
use Rattle.std.specs.List.{list_all}
use Rattle.std.specs.List.Sorted.{IsStrictlyIncreasing}
use Rattle.std.proofs.Common.{◌≡◌, ℕ, zero, suc, ◌+◌, ◌<◌, ◌≤◌, ◌⊎◌, inl, inr, List, [], ◌∷◌, length, Option, Some, None, refl, arith, ap, sym, subst, ◌∙◌, eqb-true, ltb-true}
use Rattle.std.proofs.lemmas.Bool.{cases_lt, lt-ltb, le-ltb, ne_eqb}
use Rattle.std.proofs.lemmas.Option.{slice_get_past, slice_get_within, none-some}
use Rattle.lido_base.specs.Tree.{Tree, Node, Item, Child, child_number, contains, is_just, children, parent_of, place_of, item_at, items_of, continues, IsTree}
use Rattle.trials_of_grammar.proofs.Finite.{never, both}

abbrev pub below : ℕ → (ℕ → Bool) → Bool
below zero p = true
below (suc k) p = p k && below k p

abbrev pub alike : Bool → Bool → Bool
alike true b = b
alike false b = not b

abbrev pub implies : Bool → Bool → Bool
implies true b = b
implies false b = true

pub below-at : (k : ℕ) (p : ℕ → Bool) → IsTrue (below k p) → (n : ℕ) → n < k → IsTrue (p n)
below-at zero p h n l = absurd (omega (arith, l))
below-at (suc k) p h n l = go (cases_lt n k) (λ m. below-at k p (both (p k) (below k p) h).1 n m)
  where
    go : (n < k) ⊎ (k ≤ n) → (n < k → IsTrue (p n)) → IsTrue (p n)
    go (inl m) later = later m
    go (inr m) later = let e : k ≡ n = omega arith in subst (λ i. IsTrue (p i)) e (both (p k) (below k p) h).0

pub alike-same : (a b : Bool) → IsTrue (alike a b) → a ≡ b
alike-same true b h = sym h
alike-same false true h = never h
alike-same false false h = refl

implied : (a b : Bool) → IsTrue (implies a b) → a ≡ true → IsTrue b
implied true b h e = h
implied false b h e = never e

-- the number is below the length
abbrev is_within : ℕ → Option ℕ → Bool
is_within n None = true
is_within n (Some p) = nat_lt p n

module _ {V : Type 0} (t : Tree V) where
  -- a child stands at the place that it says
  abbrev stands_at : ℕ → Option (Item V) → Bool
  stands_at k (Some (Child c)) = nat_eq (place_of t c) (suc k)
  stands_at k _ = true

  abbrev rises_at : List ℕ → ℕ → Bool
  rises_at xs k = implies (nat_lt (k + 1) (length xs)) (nat_lt (slice_index xs k) (slice_index xs (k + 1)))

  pub record IsTestedTree : Type 0 where
    pub has_root : 0 < length t
    pub root_first : parent_of t 0 ≡ None
    pub root_place : place_of t 0 ≡ 0
    pub in_preorder : IsTrue (below (length t) (λ n. implies (nat_lt (n + 1) (length t)) (continues t n (parent_of t (n + 1)))))
    pub items_agree : IsTrue (below (length t) (λ n. below (length t) (λ c. alike (contains c (children t n)) (is_just n (parent_of t c)))))
    pub children_within : IsTrue (below (length t) (λ n. list_all (λ c. nat_lt c (length t)) (children t n)))
    pub parents_within : IsTrue (below (length t) (λ c. is_within (length t) (parent_of t c)))
    pub children_ascend : IsTrue (below (length t) (λ n. below (length (children t n)) (rises_at (children t n))))
    pub places_agree : IsTrue (below (length t) (λ n. below (length (items_of t n)) (λ k. stands_at k (item_at t n (suc k)))))

  abbrev items_in : Option (Node V) → List (Item V)
  items_in o = elim o [ None ↦ [] | Some node ↦ node.items ]

  no-items : (n : ℕ) → length t ≤ n → items_of t n ≡ []
  no-items n h = ap items_in (slice_get_past t n h)

  no-children : (n : ℕ) → length t ≤ n → children t n ≡ []
  no-children n h = ap (λ (items : List (Item V)). filter_map child_number items) (no-items n h)

  not-contained : (xs : List ℕ) (k c : ℕ) → IsTrue (list_all (λ x. nat_lt x k) xs) → k ≤ c → contains c xs ≡ false
  not-contained [] k c h l = refl
  not-contained (x ∷ xs) k c h l =
      let b = both (nat_lt x k) (list_all (λ y. nat_lt y k) xs) h in
      let m : x < k = ltb-true x k b.0 in
      rw (ne_eqb c x (λ e. omega (arith, e, m, l)), not-contained xs k c b.1 l) refl

  not-parent : (n : ℕ) (o : Option ℕ) → IsTrue (is_within (length t) o) → length t ≤ n → is_just n o ≡ false
  not-parent n None h l = refl
  not-parent n (Some p) h l = let m : p < length t = ltb-true p (length t) h in ne_eqb p n (λ e. omega (arith, e, m, l))

  agree : IsTestedTree → (n c : ℕ) → contains c (children t n) ≡ (nat_lt c (length t) && is_just n (parent_of t c))
  agree w n c = go (cases_lt n (length t)) (cases_lt c (length t))
    where
      go : (n < length t) ⊎ (length t ≤ n) → (c < length t) ⊎ (length t ≤ c) → contains c (children t n) ≡ (nat_lt c (length t) && is_just n (parent_of t c))
      go (inl l) (inl m) = rw (lt-ltb c (length t) m) (alike-same _ _ (below-at (length t) (λ i. alike (contains i (children t n)) (is_just n (parent_of t i)))
          (below-at (length t) (λ j. below (length t) (λ i. alike (contains i (children t j)) (is_just j (parent_of t i)))) w.items_agree n l) c m))
      go (inl l) (inr m) = rw (le-ltb c (length t) m) (not-contained (children t n) (length t) c (below-at (length t) (λ j. list_all (λ i. nat_lt i (length t)) (children t j)) w.children_within n l) m)
      go (inr l) (inl m) = rw (no-children n l, lt-ltb c (length t) m) (sym (not-parent n (parent_of t c) (below-at (length t) (λ i. is_within (length t) (parent_of t i)) w.parents_within c m) l))
      go (inr l) (inr m) = rw (no-children n l, le-ltb c (length t) m) refl

  ascend : IsTestedTree → (n : ℕ) → IsStrictlyIncreasing (children t n)
  ascend w n k h = go (cases_lt n (length t))
    where
      go : (n < length t) ⊎ (length t ≤ n) → slice_index (children t n) k < slice_index (children t n) (k + 1)
      go (inl l) = ltb-true _ _ (implied _ _ (below-at (length (children t n)) (rises_at (children t n))
          (below-at (length t) (λ j. below (length (children t j)) (rises_at (children t j))) w.children_ascend n l) k (omega (arith, h))) (lt-ltb _ _ h))
      go (inr l) = let none : length (children t n) ≡ 0 = ap length (no-children n l) in absurd (omega (arith, h, none))

  stands : IsTestedTree → (n k c : ℕ) → item_at t n (suc k) ≡ Some (Child c) → place_of t c ≡ suc k
  stands w n k c e = go (cases_lt n (length t))
    where
      go : (n < length t) ⊎ (length t ≤ n) → place_of t c ≡ suc k
      go (inl l) = eqb-true _ _ (subst (λ o. IsTrue (stands_at k o)) e (below-at (length (items_of t n)) (λ i. stands_at i (item_at t n (suc i)))
          (below-at (length t) (λ j. below (length (items_of t j)) (λ i. stands_at i (item_at t j (suc i)))) w.places_agree n l) k (slice_get_within (items_of t n) k (Child c) e)))
      go (inr l) = absurd (none-some _ (sym (ap (λ items. slice_get items k) (no-items n l)) ∙ e))

  pub tree-tested : IsTestedTree → IsTree t
  tree-tested w = record {
    has_root = w.has_root;
    root_first = w.root_first;
    root_place = w.root_place;
    in_preorder = λ n h. implied _ _ (below-at (length t) (λ j. implies (nat_lt (j + 1) (length t)) (continues t j (parent_of t (j + 1)))) w.in_preorder n (omega (arith, h))) (lt-ltb _ _ h);
    items_agree = agree w;
    children_ascend = ascend w;
    places_agree = stands w;
  }
