-- Children, parents and subtrees of a tree in preorder.
use Rattle.std.specs.Prelude.{Contains, IsTrue, nat_eq, nat_lt, filter_map, slice_get, AllPairs}
use Rattle.std.proofs.Common.{◌≡◌, ℕ, zero, suc, ◌+◌, ◌<◌, ◌≤◌, ◌⊎◌, inl, inr, List, [], ◌∷◌, length, Option, Some, None, refl, ap, sym, subst, ◌∙◌, arith, add-one, eqb-true}
use Rattle.std.proofs.lemmas.Bool.{cases_lt, lt-ltb, eq-eqb}
use Rattle.std.proofs.Math.Nat.{eq-or-lt_of_le}
use Rattle.std.proofs.lemmas.List.Kept.{AllPairs-from_increasing}
use Rattle.std.proofs.lemmas.Option.{slice_get_within}
use Rattle.lido_base.specs.Tree.{Tree, Item, Child, Leaf, IsTree, child_number, parent_of, place_of, items_of, item_at, children, ancestors, contains, continues, is_just}
use Rattle.lido_base.specs.Subtrees.{IsInSubtree}
use Rattle.lido_base.proofs.EquationsLemmas.{contains-later}
use Rattle.lido_base.proofs.TreeLemmas.{parent_before, ancestors-root, ancestors-child, contains-cons, contains-test, test-contains, both, either, is_just-some}

module _ {V : Type 0} where
  pub Contains-child : (items : List (Item V)) (k c : ℕ) → slice_get items k ≡ Some (Child c) → Contains (filter_map child_number items) c
  Contains-child [] k c e = cc
  Contains-child (Child d ∷ items) zero c e = (0, (omega arith), cc)
  Contains-child (Leaf v ∷ items) zero c e = cc
  Contains-child (Child d ∷ items) (suc k) c e = let later = Contains-child items k c e in (suc later.0, (omega (arith, later.1)), later.2)
  Contains-child (Leaf v ∷ items) (suc k) c e = Contains-child items k c e

-- the item of a child is somewhere
child_item : {V : Type 0} (items : List (Item V)) (c : ℕ) → Contains (filter_map child_number items) c → (k : ℕ) × (slice_get items k ≡ Some (Child c))
child_item [] c m = absurd (omega (arith, m.1))
child_item (Leaf v ∷ items) c m = let later = child_item items c m in (suc later.0, later.1)
child_item (Child d ∷ items) c (zero, h, e) = (zero, ap (λ x. Some (Child x)) e)
child_item (Child d ∷ items) c (suc k, h, e) = let later = child_item items c (k, (omega arith), e) in (suc later.0, later.1)

module _ {V : Type 0} (t : Tree V) (tree : IsTree t) where
  -- each node but the root has a parent
  pub parent_there : (n : ℕ) → n + 1 < length t → (p : ℕ) × (parent_of t (n + 1) ≡ Some p)
  parent_there n h = go (parent_of t (n + 1)) refl (tree.in_preorder n h)
    where
      go : (o : Option ℕ) → parent_of t (n + 1) ≡ o → IsTrue (continues t n o) → (p : ℕ) × (parent_of t (n + 1) ≡ Some p)
      go None e follows = cc
      go (Some p) e follows = (p, e)

  -- a node whose parent is p stands among the items of p
  pub child_of_parent : (c p : ℕ) → c < length t → parent_of t c ≡ Some p → (k : ℕ) × (item_at t p (suc k) ≡ Some (Child c))
  child_of_parent c p h e = child_item (items_of t p) c (contains-test c (children t p) (tree.items_agree p c ∙ rw (lt-ltb c (length t) h, e) (eq-eqb p p refl)))

-- each number is below all later ones
abbrev Rises : List ℕ → Type 0
Rises [] = Unit {0}
Rises (x ∷ xs) = ((y : ℕ) → Contains xs y → x < y) × Rises xs

rises_from : (xs : List ℕ) → AllPairs (λ x y. x < y) xs → Rises xs
rises_from [] pairs = tt
rises_from (x ∷ xs) pairs = (λ y m. let h = pairs 0 (suc m.0) y (omega arith) (let in_range = m.1 in omega arith) in subst (λ z. x < z) m.2 h, rises_from xs (λ i j d a b. pairs (suc i) (suc j) d (omega arith) (omega arith)))

some_child : {V : Type 0} {o : Option (Item V)} (c d : ℕ) → o ≡ Some (Child c) → o ≡ Some (Child d) → c ≡ d
some_child c d e f = cc

rises_items : {V : Type 0} (items : List (Item V)) → Rises (filter_map child_number items) → (i j c d : ℕ) → slice_get items i ≡ Some (Child c) → slice_get items j ≡ Some (Child d) → i < j → c < d
rises_items [] r i j c d e f h = cc
rises_items (Leaf v ∷ items) r zero j c d e f h = cc
rises_items (Leaf v ∷ items) r (suc i) zero c d e f h = absurd (omega arith)
rises_items (Leaf v ∷ items) r (suc i) (suc j) c d e f h = rises_items items r i j c d e f (omega arith)
rises_items (Child x ∷ items) r zero zero c d e f h = absurd (omega arith)
rises_items (Child x ∷ items) r zero (suc j) c d e f h = let below = r.0 d (Contains-child items j d f) in let same : x ≡ c = some_child x c refl e in omega (arith, below, same)
rises_items (Child x ∷ items) r (suc i) zero c d e f h = absurd (omega arith)
rises_items (Child x ∷ items) r (suc i) (suc j) c d e f h = rises_items items r.1 i j c d e f (omega arith)

-- what has a parent is a node of the table
pub with_parent_inside : {V : Type 0} (t : Tree V) (n p : ℕ) → parent_of t n ≡ Some p → n < length t
with_parent_inside [] n p e = cc
with_parent_inside (node ∷ t) zero p e = omega arith
with_parent_inside (node ∷ t) (suc n) p e = let h = with_parent_inside t n p e in omega arith

module _ {V : Type 0} (W : Tree V) (tree : IsTree W) where
  pub above_self : (n p m : ℕ) → parent_of W n ≡ Some p → Contains (ancestors W n) m → (p ≡ m) ⊎ Contains (ancestors W p) m
  above_self n p m e among = contains-cons p m (ancestors W p) (rw (ancestors-child W tree n p e) at among)

  pub parent_above : (n p : ℕ) → parent_of W n ≡ Some p → Contains (ancestors W n) p
  parent_above n p e = subst (λ xs. Contains xs p) (sym (ancestors-child W tree n p e)) (0, (omega arith), refl)

  pub above_parent : (n p m : ℕ) → parent_of W n ≡ Some p → Contains (ancestors W p) m → Contains (ancestors W n) m
  above_parent n p m e among = subst (λ xs. Contains xs m) (sym (ancestors-child W tree n p e)) (contains-later p m (ancestors W p) among)

  has_parent : (n m : ℕ) → Contains (ancestors W n) m → (p : ℕ) × (parent_of W n ≡ Some p)
  has_parent n m among = go (parent_of W n) refl
    where
      go : (o : Option ℕ) → parent_of W n ≡ o → (p : ℕ) × (parent_of W n ≡ Some p)
      go None e = let none = rw (ancestors-root W n e) at among in absurd (omega (arith, none.1))
      go (Some p) e = (p, e)

  above_before_by : (k n m : ℕ) → n ≤ k → Contains (ancestors W n) m → m < n
  above_before_by zero n m b among = let up = has_parent n m among in let h = parent_before W tree n up.0 up.1 in absurd (omega arith)
  above_before_by (suc k) n m b among = let up = has_parent n m among in let h = parent_before W tree n up.0 up.1 in go up.0 h (above_self n up.0 m up.1 among) (above_before_by k up.0 m (omega arith))
    where
      go : (p : ℕ) → p < n → (p ≡ m) ⊎ Contains (ancestors W p) m → (Contains (ancestors W p) m → m < p) → m < n
      go p h (inl same) ih = omega arith
      go p h (inr above) ih = let l = ih above in omega arith

  -- the ancestors of a node stand before it
  pub above_before : (n m : ℕ) → Contains (ancestors W n) m → m < n
  above_before n m among = above_before_by n n m (omega arith) among

  above_above_by : (k n q m : ℕ) → n ≤ k → Contains (ancestors W n) q → Contains (ancestors W q) m → Contains (ancestors W n) m
  above_above_by zero n q m b among next = let l = above_before n q among in absurd (omega arith)
  above_above_by (suc k) n q m b among next = let up = has_parent n q among in let h = parent_before W tree n up.0 up.1 in above_parent n up.0 m up.1 (go up.0 (above_self n up.0 q up.1 among) (λ a. above_above_by k up.0 q m (omega arith) a next))
    where
      go : (p : ℕ) → (p ≡ q) ⊎ Contains (ancestors W p) q → (Contains (ancestors W p) q → Contains (ancestors W p) m) → Contains (ancestors W p) m
      go p (inl same) ih = subst (λ z. Contains (ancestors W z) m) (sym same) next
      go p (inr above) ih = ih above

  -- what is above an ancestor is above the node
  pub above_above : (n q m : ℕ) → Contains (ancestors W n) q → Contains (ancestors W q) m → Contains (ancestors W n) m
  above_above n q m = above_above_by n n q m (omega arith)

  -- the parent of the node behind x is on the path to x
  pub preorder_parent : (x q : ℕ) → parent_of W (suc x) ≡ Some q → IsInSubtree W q x
  preorder_parent x q e = let inside = with_parent_inside W (suc x) q e in
      let h = subst (λ o. IsTrue (continues W x o)) (ap (parent_of W) (add-one x) ∙ e) (tree.in_preorder x (omega arith)) in
      go (either (nat_eq q x) (contains q (ancestors W x)) h)
    where
      go : IsTrue (nat_eq q x) ⊎ IsTrue (contains q (ancestors W x)) → IsInSubtree W q x
      go (inl same) = inl (eqb-true q x same)
      go (inr among) = inr (contains-test q (ancestors W x) among)

  between_by : (d x m y : ℕ) → x ≤ y + d → Contains (ancestors W x) m → m < y → y ≤ x → Contains (ancestors W y) m
  between_by zero x m y b among low high = let e : x ≡ y = omega arith in subst (λ z. Contains (ancestors W z) m) e among
  between_by (suc d) zero m y b among low high = absurd (omega arith)
  between_by (suc d) (suc x) m y b among low high = go (eq-or-lt_of_le high) (λ l a. between_by d x m y (omega arith) a low l)
    where
      onward : IsInSubtree W m x
      onward = let up = has_parent (suc x) m among in at up.0 (preorder_parent x up.0 up.1) (above_self (suc x) up.0 m up.1 among)
        where
          at : (q : ℕ) → IsInSubtree W q x → (q ≡ m) ⊎ Contains (ancestors W q) m → IsInSubtree W m x
          at q path (inl same) = subst (λ z. IsInSubtree W z x) same path
          at q (inl here) (inr above) = inr (subst (λ z. Contains (ancestors W z) m) here above)
          at q (inr there) (inr above) = inr (above_above x q m there above)

      go : (y ≡ suc x) ⊎ (y < suc x) → (y ≤ x → Contains (ancestors W x) m → Contains (ancestors W y) m) → Contains (ancestors W y) m
      go (inl same) ih = subst (λ z. Contains (ancestors W z) m) (sym same) among
      go (inr less) ih = on onward
        where
          on : IsInSubtree W m x → Contains (ancestors W y) m
          on (inl here) = absurd (omega arith)
          on (inr there) = ih (omega arith) there

  -- all nodes between a node and one below it are below it
  pub between : (x m y : ℕ) → Contains (ancestors W x) m → m < y → y ≤ x → Contains (ancestors W y) m
  between x m y among low high = between_by x x m y (omega arith) among low high

  -- children stand in order
  pub ascending : (n i j c d : ℕ) → item_at W n i ≡ Some (Child c) → item_at W n j ≡ Some (Child d) → i < j → c < d
  ascending n zero j c d e f h = cc
  ascending n (suc i) zero c d e f h = cc
  ascending n (suc i) (suc j) c d e f h = rises_items (items_of W n) (rises_from (children W n) (AllPairs-from_increasing (children W n) (tree.children_ascend n))) i j c d e f (omega arith)

  -- the parent of a child
  pub child_parent : (p k c : ℕ) → item_at W p k ≡ Some (Child c) → parent_of W c ≡ Some p
  child_parent p zero c e = cc
  child_parent p (suc k) c e = is_just-some p (parent_of W c) (both (nat_lt c (length W)) (is_just p (parent_of W c)) (sym (tree.items_agree p c) ∙ test-contains c (children W p) (Contains-child (items_of W p) k c e))).1

  -- a node stands at its place
  pub own_item : (m p : ℕ) → parent_of W m ≡ Some p → item_at W p (place_of W m) ≡ Some (Child m)
  own_item m p e = let at = child_of_parent W tree m p (with_parent_inside W m p e) e in subst (λ k. item_at W p k ≡ Some (Child m)) (sym (tree.places_agree p at.0 m at.1)) at.1

  -- and within its parent's items
  pub place_inside : (m p : ℕ) → parent_of W m ≡ Some p → place_of W m ≤ length (items_of W p)
  place_inside m p e = go (place_of W m) (own_item m p e)
    where
      go : (k : ℕ) → item_at W p k ≡ Some (Child m) → k ≤ length (items_of W p)
      go zero at = cc
      go (suc k) at = let h = slice_get_within (items_of W p) k (Child m) at in omega arith

  pub on_path_before : (l m : ℕ) → IsInSubtree W m l → m ≤ l
  on_path_before l m (inl same) = omega arith
  on_path_before l m (inr above) = let h = above_before l m above in omega arith

  -- the path to the parent of a node on it
  pub path_up : (l m p : ℕ) → IsInSubtree W m l → parent_of W m ≡ Some p → IsInSubtree W p l
  path_up l m p (inl same) e = inr (parent_above l p (ap (parent_of W) (sym same) ∙ e))
  path_up l m p (inr above) e = inr (above_above l m p above (parent_above m p e))

  -- the children of the parent up to a node on the path to l were met by l, and those behind it were not
  pub before_up : (l m p : ℕ) → IsInSubtree W m l → parent_of W m ≡ Some p → (k c : ℕ) → item_at W p k ≡ Some (Child c) → k ≤ place_of W m → c < suc l
  before_up l m p path up k c e h = go (eq-or-lt_of_le h)
    where
      low : m ≤ l
      low = on_path_before l m path

      go : (k ≡ place_of W m) ⊎ (k < place_of W m) → c < suc l
      go (inl same) = let here = some_child c m e (ap (item_at W p) same ∙ own_item m p up) in omega (arith, here, low)
      go (inr less) = let l = ascending p k (place_of W m) c m e (own_item m p up) less in omega (arith, low)

  pub behind_up : (l m p : ℕ) → IsInSubtree W m l → parent_of W m ≡ Some p → (k c : ℕ) → item_at W p k ≡ Some (Child c) → place_of W m < k → suc l ≤ c
  behind_up l m p path up k c e h = go (cases_lt l c) path
    where
      later : m < c
      later = ascending p (place_of W m) k m c (own_item m p up) e h

      before : p < m
      before = parent_before W tree m p up

      not_inside : (p ≡ m) ⊎ Contains (ancestors W p) m → ⊥
      not_inside (inl same) = omega (arith, before)
      not_inside (inr above) = let l = above_before p m above in omega (arith, before)

      go : (l < c) ⊎ (c ≤ l) → IsInSubtree W m l → suc l ≤ c
      go (inl past) on = omega arith
      go (inr within) (inl same) = omega (arith, later)
      go (inr within) (inr above) = absurd (not_inside (above_self c p m (child_parent p k c e) (between l m c above later within)))

  -- a node that is left for the next one has no children behind it
  pub no_more : (l m p : ℕ) → IsInSubtree W m l → parent_of W (suc l) ≡ Some p → Contains (ancestors W m) p → (k c : ℕ) → item_at W m k ≡ Some (Child c) → c < suc l
  no_more l m p path up above k c e = go (cases_lt c (suc l))
    where
      low : m ≤ l
      low = on_path_before l m path

      below : p < m
      below = above_before m p above

      not_inside : (p ≡ m) ⊎ Contains (ancestors W p) m → ⊥
      not_inside (inl same) = omega (arith, below)
      not_inside (inr higher) = let h = above_before p m higher in omega (arith, below)

      go : (c < suc l) ⊎ (suc l ≤ c) → c < suc l
      go (inl h) = h
      go (inr h) = absurd (not_inside (above_self (suc l) p m up (between c m (suc l) (parent_above c m (child_parent m k c e)) (omega (arith, low)) h)))

  root_on_path_by : (k n : ℕ) → n ≤ k → n < length W → IsInSubtree W 0 n
  root_on_path_by k zero b h = inl refl
  root_on_path_by zero (suc n) b h = absurd (omega arith)
  root_on_path_by (suc k) (suc n) b h = let up = parent_there W tree n (omega arith) in let e : parent_of W (suc n) ≡ Some up.0 = rw add-one at up.1 in let before = parent_before W tree (suc n) up.0 e in go up.0 e (root_on_path_by k up.0 (omega arith) (omega arith))
    where
      go : (p : ℕ) → parent_of W (suc n) ≡ Some p → IsInSubtree W 0 p → IsInSubtree W 0 (suc n)
      go p e (inl same) = inr (subst (Contains (ancestors W (suc n))) (sym same) (parent_above (suc n) p e))
      go p e (inr above) = inr (above_parent (suc n) p 0 e above)

  -- the root is on each path
  pub root_on_path : (n : ℕ) → n < length W → IsInSubtree W 0 n
  root_on_path n h = root_on_path_by n n (omega arith) h

  pub child_place : (p place c : ℕ) → item_at W p place ≡ Some (Child c) → place_of W c ≡ place
  child_place p zero c e = cc
  child_place p (suc k) c e = tree.places_agree p k c e

  -- a subtree of a subtree
  pub in_subtree : (m q n : ℕ) → IsInSubtree W m q → IsInSubtree W q n → IsInSubtree W m n
  in_subtree m q n (inl same) within = subst (λ x. IsInSubtree W x n) (sym same) within
  in_subtree m q n (inr above) (inl same) = inr (subst (λ x. Contains (ancestors W x) m) same above)
  in_subtree m q n (inr above) (inr below) = inr (above_above n q m below above)

  pub together : (m n y : ℕ) → IsInSubtree W m n → m ≤ y → y ≤ n → IsInSubtree W m y
  together m n y within low high = go (eq-or-lt_of_le low) within
    where
      go : (m ≡ y) ⊎ (m < y) → IsInSubtree W m n → IsInSubtree W m y
      go (inl same) on = inl same
      go (inr less) (inl same) = absurd (omega arith)
      go (inr less) (inr above) = inr (between n m y above less high)
