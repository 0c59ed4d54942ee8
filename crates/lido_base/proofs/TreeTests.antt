-- A table whose facts are tested node by node is a tree.
use Rattle.std.specs.Prelude.{Bool, true, false, IsTrue, ◌&&◌, not, nat_eq, nat_lt, slice_index, is_none, filter_map}
use Rattle.std.specs.List.{list_all}
use Rattle.std.specs.List.Sorted.{IsStrictlyIncreasing}
use Rattle.std.proofs.Common.{◌≡◌, ℕ, zero, suc, ◌+◌, ◌-◌, ◌<◌, ◌≤◌, ◌⊎◌, inl, inr, List, [], ◌∷◌, length, slice_get, Option, Some, None, refl, arith, ap, sym, subst, eqb-true, ltb-true}
use Rattle.std.proofs.lemmas.Bool.{ltb-false}
use Rattle.std.proofs.lemmas.Option.{slice_get_past, none-some}
use Rattle.lido_base.specs.Tree.{Tree, Node, Item, Child, Leaf, children, items_of, item_at, parent_of, place_of, contains, continues, is_just, child_number, IsTree}
use Rattle.lido_base.proofs.TreeLemmas.{both}

abbrev pub all_below : ℕ → (ℕ → Bool) → Bool
all_below zero test = true
all_below (suc k) test = test k && all_below k test

same_or_below : (n k : ℕ) → n < suc k → (n ≡ k) ⊎ (n < k)
same_or_below n k h = grind arith

below_or_past : (n k : ℕ) → (n < k) ⊎ (k ≤ n)
below_or_past n k = grind arith

all_below-holds : (k : ℕ) (test : ℕ → Bool) → IsTrue (all_below k test) → (n : ℕ) → n < k → IsTrue (test n)
all_below-holds zero test h n l = absurd (omega arith)
all_below-holds (suc k) test h n l = go (both (test k) (all_below k test) h) (same_or_below n k l) (λ below m. all_below-holds k test below n m)
  where
    go : IsTrue (test k) × IsTrue (all_below k test) → (n ≡ k) ⊎ (n < k) → (IsTrue (all_below k test) → n < k → IsTrue (test n)) → IsTrue (test n)
    go (here, below) (inl e) later = subst (λ m. IsTrue (test m)) (sym e) here
    go (here, below) (inr m) later = later below m

abbrev pub same_bool : Bool → Bool → Bool
same_bool true b = b
same_bool false b = not b

same_bool-equal : (a b : Bool) → IsTrue (same_bool a b) → a ≡ b
same_bool-equal true true h = refl
same_bool-equal true false h = cc
same_bool-equal false true h = cc
same_bool-equal false false h = refl

abbrev pub ascends : List ℕ → Bool
ascends [] = true
ascends (x ∷ []) = true
ascends (x ∷ y ∷ ys) = nat_lt x y && ascends (y ∷ ys)

ascends-increasing : (xs : List ℕ) → IsTrue (ascends xs) → IsStrictlyIncreasing xs
ascends-increasing [] h = λ k l. absurd (omega (arith, l))
ascends-increasing (x ∷ []) h = λ k l. absurd (omega (arith, l))
ascends-increasing (x ∷ y ∷ ys) h = go (both (nat_lt x y) (ascends (y ∷ ys)) h) (ascends-increasing (y ∷ ys))
  where
    go : IsTrue (nat_lt x y) × IsTrue (ascends (y ∷ ys)) → (IsTrue (ascends (y ∷ ys)) → IsStrictlyIncreasing (y ∷ ys)) → IsStrictlyIncreasing (x ∷ y ∷ ys)
    go (first, more) later = at
      where
        next : (k m : ℕ) → m ≡ suc k → m < length (y ∷ ys) → slice_index (y ∷ ys) k < slice_index (y ∷ ys) m
        next k m e l = let s : m ≡ k + 1 = omega arith in subst (λ i. slice_index (y ∷ ys) k < slice_index (y ∷ ys) i) (sym s) (later more k (omega arith))

        at : (k : ℕ) → k + 1 < length (x ∷ y ∷ ys) → slice_index (x ∷ y ∷ ys) k < slice_index (x ∷ y ∷ ys) (k + 1)
        at zero l = ltb-true x y first
        at (suc k) l = let s : suc k + 1 ≡ suc (suc k) = omega arith in subst (λ i. slice_index (y ∷ ys) k < slice_index (x ∷ y ∷ ys) i) (sym s) (next k (suc k) refl (omega arith))

none : (o : Option ℕ) → IsTrue (is_none o) → o ≡ None
none None h = refl
none (Some m) h = cc

abbrev pub is_parent_below : ℕ → Option ℕ → Bool
is_parent_below k None = true
is_parent_below k (Some p) = nat_lt p k

module _ {V : Type 0} (t : Tree V) where
  -- the child nodes among these items, of which the first stands at place k + 1, have their places
  abbrev pub has_places : ℕ → List (Item V) → Bool
  has_places k [] = true
  has_places k (Child c ∷ items) = nat_eq (place_of t c) (suc k) && has_places (suc k) items
  has_places k (Leaf v ∷ items) = has_places (suc k) items

  -- each test runs over the nodes of the table alone
  pub record IsTested : Type 0 where
    pub has_root : IsTrue (nat_lt 0 (length t))
    pub root_first : IsTrue (is_none (parent_of t 0))
    pub root_place : IsTrue (nat_eq (place_of t 0) 0)
    pub in_preorder : IsTrue (all_below (length t - 1) (λ n. continues t n (parent_of t (n + 1))))
    pub items_agree : IsTrue (all_below (length t) (λ n. all_below (length t) (λ c. same_bool (contains c (children t n)) (is_just n (parent_of t c)))))
    pub children_inside : IsTrue (all_below (length t) (λ n. list_all (λ c. nat_lt c (length t)) (children t n)))
    pub parents_inside : IsTrue (all_below (length t) (λ c. is_parent_below (length t) (parent_of t c)))
    pub children_ascend : IsTrue (all_below (length t) (λ n. ascends (children t n)))
    pub places_agree : IsTrue (all_below (length t) (λ n. has_places 0 (items_of t n)))

  past_items : (n : ℕ) → length t ≤ n → items_of t n ≡ []
  past_items n h = ap (λ (o : Option (Node V)). elim o [ None ↦ [] | Some node ↦ node.items ]) (slice_get_past t n h)

  past_children : (n : ℕ) → length t ≤ n → children t n ≡ []
  past_children n h = ap (filter_map child_number) (past_items n h)

  not_among : (c k : ℕ) (xs : List ℕ) → k ≤ c → IsTrue (list_all (λ x. nat_lt x k) xs) → contains c xs ≡ false
  not_among c k [] l h = refl
  not_among c k (x ∷ xs) l h = go (both (nat_lt x k) (list_all (λ y. nat_lt y k) xs) h) (not_among c k xs l) (nat_eq c x) refl
    where
      go : IsTrue (nat_lt x k) × IsTrue (list_all (λ y. nat_lt y k) xs) → (IsTrue (list_all (λ y. nat_lt y k) xs) → contains c xs ≡ false) → (b : Bool) → nat_eq c x ≡ b → contains c (x ∷ xs) ≡ false
      go (first, more) later true e = let same : c ≡ x = eqb-true c x e in let less : x < k = ltb-true x k first in absurd (omega arith)
      go (first, more) later false e = rw e (later more)

  not_parent : (n k : ℕ) (o : Option ℕ) → k ≤ n → IsTrue (is_parent_below k o) → is_just n o ≡ false
  not_parent n k None l h = refl
  not_parent n k (Some p) l h = go (nat_eq p n) refl
    where
      go : (b : Bool) → nat_eq p n ≡ b → b ≡ false
      go true e = let same : p ≡ n = eqb-true p n e in let less : p < k = ltb-true p k h in absurd (omega arith)
      go false e = refl

  places-hold : (k : ℕ) (items : List (Item V)) → IsTrue (has_places k items) → (j c : ℕ) → slice_get items j ≡ Some (Child c) → place_of t c ≡ suc (k + j)
  places-hold k [] h j c e = cc
  places-hold k (Child d ∷ items) h zero c e = go (both (nat_eq (place_of t d) (suc k)) (has_places (suc k) items) h)
    where
      go : IsTrue (nat_eq (place_of t d) (suc k)) × IsTrue (has_places (suc k) items) → place_of t c ≡ suc (k + 0)
      go (first, more) = let same : d ≡ c = cc in let there : place_of t d ≡ suc k = eqb-true _ _ first in subst (λ m. place_of t m ≡ suc (k + 0)) same (omega arith)
  places-hold k (Child d ∷ items) h (suc j) c e = go (both (nat_eq (place_of t d) (suc k)) (has_places (suc k) items) h) (λ more. places-hold (suc k) items more j c e)
    where
      go : IsTrue (nat_eq (place_of t d) (suc k)) × IsTrue (has_places (suc k) items) → (IsTrue (has_places (suc k) items) → place_of t c ≡ suc (suc k + j)) → place_of t c ≡ suc (k + suc j)
      go (first, more) later = let there = later more in omega arith
  places-hold k (Leaf v ∷ items) h zero c e = cc
  places-hold k (Leaf v ∷ items) h (suc j) c e = let later = places-hold (suc k) items h j c e in omega arith

  nowhere : (k c : ℕ) → slice_get {X = Item V} [] k ≡ Some (Child c) → place_of t c ≡ suc k
  nowhere k c e = absurd (none-some _ e)

  module _ (w : IsTested) where
    agree : (n c : ℕ) → contains c (children t n) ≡ (nat_lt c (length t) && is_just n (parent_of t c))
    agree n c = go (below_or_past c (length t)) (below_or_past n (length t)) (nat_lt c (length t)) refl
      where
        go : (c < length t) ⊎ (length t ≤ c) → (n < length t) ⊎ (length t ≤ n) → (b : Bool) → nat_lt c (length t) ≡ b → contains c (children t n) ≡ (b && is_just n (parent_of t c))
        go (inl i) (inl j) true e = same_bool-equal _ _ (all_below-holds _ _ (all_below-holds _ _ w.items_agree n j) c i)
        go (inl i) (inr j) true e = rw (past_children n j) (sym (not_parent n (length t) (parent_of t c) j (all_below-holds _ _ w.parents_inside c i)))
        go (inr i) j true e = let less : c < length t = ltb-true c (length t) e in absurd (omega arith)
        go i (inr j) false e = rw (past_children n j) refl
        go (inr i) (inl j) false e = not_among c (length t) (children t n) i (all_below-holds _ _ w.children_inside n j)
        go (inl i) (inl j) false e = absurd (let past : length t ≤ c = ltb-false c (length t) e in omega arith)

    ascend : (n : ℕ) → IsStrictlyIncreasing (children t n)
    ascend n = go (below_or_past n (length t))
      where
        go : (n < length t) ⊎ (length t ≤ n) → IsStrictlyIncreasing (children t n)
        go (inl i) = ascends-increasing _ (all_below-holds _ _ w.children_ascend n i)
        go (inr i) = subst (λ xs. IsStrictlyIncreasing xs) (sym (past_children n i)) (ascends-increasing [] refl)

    placed : (n k c : ℕ) → item_at t n (suc k) ≡ Some (Child c) → place_of t c ≡ suc k
    placed n k c e = go (below_or_past n (length t))
      where
        go : (n < length t) ⊎ (length t ≤ n) → place_of t c ≡ suc k
        go (inl i) = let there = places-hold 0 (items_of t n) (all_below-holds _ _ w.places_agree n i) k c e in omega arith
        go (inr i) = nowhere k c (subst (λ items. slice_get items k ≡ Some (Child c)) (past_items n i) e)

    pub tested-IsTree : IsTree t
    tested-IsTree = record {
      has_root = ltb-true _ _ w.has_root;
      root_first = none _ w.root_first;
      root_place = eqb-true _ _ w.root_place;
      in_preorder = λ n h. let below : n < length t - 1 = omega arith in all_below-holds _ _ w.in_preorder n below;
      items_agree = agree;
      children_ascend = ascend;
      places_agree = placed;
    }
