-- How the words on trees change where a tree grows.
use Rattle.std.specs.Prelude.{Contains, filter_map, slice_get, IsTrue, Bool, true, false, ◌||◌, ◌&&◌, nat_eq, nat_lt, slice_index}
use Rattle.std.specs.List.Sorted.{IsStrictlyIncreasing}
use Rattle.std.proofs.Common.{append-nil, ◌≡◌, ℕ, zero, suc, ◌+◌, ◌<◌, ◌≤◌, ◌⊎◌, inl, inr, List, [], ◌∷◌, ◌++◌, length, get_or, Option, Some, None, refl, ap, sym, subst, ◌∙◌, arith, length-append}
use Rattle.std.proofs.lemmas.List.{get_or_append_left, get_or_push}
use Rattle.std.proofs.lemmas.Option.{slice_get_past, slice_get_within}
use Rattle.std.proofs.lemmas.List.Elements.{filter_map-append, Contains-get_or}
use Rattle.std.proofs.lemmas.Bool.{cases_lt, lt-ltb, le-ltb, ne_eqb, eq-eqb}
use Rattle.std.proofs.lemmas.List.Folds.{list_any-append}
use Rattle.std.proofs.lemmas.Bool.Decides.{eqb_tells}
use Rattle.std.proofs.Math.Nat.{eq-or-lt_of_le}
use Rattle.std.proofs.Math.Bool.{or-false, or-true}
use Rattle.lido_base.specs.Tree.{Tree, Node, Item, Child, Leaf, IsTree, child_number, parent_of, place_of, items_of, item_at, children, ancestors, contains, continues, is_just, and_above, unroll, places, with_item, with_node}
use Rattle.lido_base.proofs.TreeLemmas.{children_behind, parent_before, ancestors-root, ancestors-child, test-contains, contains-cons}
use Rattle.lido_base.proofs.PathLemmas.{Contains-child}
use Rattle.tree_store.specs.Growth.{IsOpen, IsNext, IsEmptyOrTree}

-- an element behind the others changes nothing at these
pub get_before : {X : Type 0} (xs : List X) (x : X) (n : ℕ) → n < length xs → slice_get (xs ++ x ∷ []) n ≡ slice_get xs n
get_before [] x n h = absurd (omega arith)
get_before (y ∷ xs) x zero h = refl
get_before (y ∷ xs) x (suc n) h = get_before xs x n (omega arith)

pub get_last : {X : Type 0} (xs : List X) (x : X) (n : ℕ) → n ≡ length xs → slice_get (xs ++ x ∷ []) n ≡ Some x
get_last [] x zero h = refl
get_last [] x (suc n) h = absurd (omega arith)
get_last (y ∷ xs) x zero h = absurd (omega arith)
get_last (y ∷ xs) x (suc n) h = get_last xs x n (omega arith)

module _ {V : Type 0} where
  -- a child item's number is among the children
  pub length-with_item : (t : Tree V) (p : ℕ) (x : Item V) → length (with_item t p x) ≡ length t
  length-with_item [] p x = refl
  length-with_item (node ∷ t) zero x = refl
  length-with_item (node ∷ t) (suc p) x = ap suc (length-with_item t p x)

  pub parent_of-with_item : (t : Tree V) (p : ℕ) (x : Item V) (n : ℕ) → parent_of (with_item t p x) n ≡ parent_of t n
  parent_of-with_item [] p x n = refl
  parent_of-with_item (node ∷ t) zero x zero = refl
  parent_of-with_item (node ∷ t) zero x (suc n) = refl
  parent_of-with_item (node ∷ t) (suc p) x zero = refl
  parent_of-with_item (node ∷ t) (suc p) x (suc n) = parent_of-with_item t p x n

  pub place_of-with_item : (t : Tree V) (p : ℕ) (x : Item V) (n : ℕ) → place_of (with_item t p x) n ≡ place_of t n
  place_of-with_item [] p x n = refl
  place_of-with_item (node ∷ t) zero x zero = refl
  place_of-with_item (node ∷ t) zero x (suc n) = refl
  place_of-with_item (node ∷ t) (suc p) x zero = refl
  place_of-with_item (node ∷ t) (suc p) x (suc n) = place_of-with_item t p x n

  pub items_of-with_item : (t : Tree V) (p : ℕ) (x : Item V) → p < length t → items_of (with_item t p x) p ≡ items_of t p ++ x ∷ []
  items_of-with_item [] p x h = absurd (omega arith)
  items_of-with_item (node ∷ t) zero x h = refl
  items_of-with_item (node ∷ t) (suc p) x h = items_of-with_item t p x (omega arith)

  pub items_of-with_item_other : (t : Tree V) (p : ℕ) (x : Item V) (n : ℕ) → (p ≡ n → ⊥) → items_of (with_item t p x) n ≡ items_of t n
  items_of-with_item_other [] p x n h = refl
  items_of-with_item_other (node ∷ t) zero x zero h = absurd (h refl)
  items_of-with_item_other (node ∷ t) zero x (suc n) h = refl
  items_of-with_item_other (node ∷ t) (suc p) x zero h = refl
  items_of-with_item_other (node ∷ t) (suc p) x (suc n) h = items_of-with_item_other t p x n (λ e. h (ap suc e))

  pub parent_of_before : (t : Tree V) (node : Node V) (n : ℕ) → n < length t → parent_of (t ++ node ∷ []) n ≡ parent_of t n
  parent_of_before t node n h = rw (get_before t node n h) refl

  place_of_before : (t : Tree V) (node : Node V) (n : ℕ) → n < length t → place_of (t ++ node ∷ []) n ≡ place_of t n
  place_of_before t node n h = rw (get_before t node n h, place_of) refl

  pub parent_of_last : (t : Tree V) (node : Node V) (n : ℕ) → n ≡ length t → parent_of (t ++ node ∷ []) n ≡ node.parent
  parent_of_last t node n h = rw (get_last t node n h) refl

  place_of_last : (t : Tree V) (node : Node V) (n : ℕ) → n ≡ length t → place_of (t ++ node ∷ []) n ≡ node.place
  place_of_last t node n h = rw (get_last t node n h, place_of) refl

  parent_of_past : (t : Tree V) (n : ℕ) → length t ≤ n → parent_of t n ≡ None
  parent_of_past t n h = rw (slice_get_past t n h) refl

  -- a node without items behind the others changes no items
  pub items_of-append : (t : Tree V) (node : Node V) → node.items ≡ [] → (n : ℕ) → items_of (t ++ node ∷ []) n ≡ items_of t n
  items_of-append [] node e zero = e
  items_of-append [] node e (suc n) = refl
  items_of-append (m ∷ t) node e zero = refl
  items_of-append (m ∷ t) node e (suc n) = items_of-append t node e n

  abbrev climb : Tree V → ℕ → ℕ → List ℕ
  climb t turns n = unroll [] (λ above i. and_above above (parent_of t i)) turns n

  -- nodes whose parents are the same have the same ancestors
  climb_same : (s t : Tree V) → IsTree t → ((m : ℕ) → m < length t → parent_of s m ≡ parent_of t m) → (turns n : ℕ) → n < length t → climb s turns n ≡ climb t turns n
  climb_same s t tree same zero n h = refl
  climb_same s t tree same (suc turns) n h = rw (same n h) (go (parent_of t n) refl (climb_same s t tree same turns))
    where
      go : (o : Option ℕ) → parent_of t n ≡ o → ((m : ℕ) → m < length t → climb s turns m ≡ climb t turns m) → and_above (climb s turns) o ≡ and_above (climb t turns) o
      go None e above = refl
      go (Some p) e above = let b = parent_before t tree n p e in ap (λ ps. p ∷ ps) (above p (omega arith))

  pub ancestors_same : (s t : Tree V) → IsTree t → ((m : ℕ) → m < length t → parent_of s m ≡ parent_of t m) → (n : ℕ) → n < length t → ancestors s n ≡ ancestors t n
  unfolding ancestors
  ancestors_same s t tree same n h = climb_same s t tree same n n h

  above_one : (t : Tree V) → IsTree t → (n m : ℕ) → (o : Option ℕ) → parent_of t n ≡ o → Contains (ancestors t n) m → ((p : ℕ) → p < n → Contains (ancestors t p) m → m < p) → m < n
  above_one t tree n m None e among higher = let none = rw (ancestors-root t n e) at among in absurd (omega (arith, none.1))
  above_one t tree n m (Some p) e among higher = go (contains-cons p m (ancestors t p) (rw (ancestors-child t tree n p e) at among))
    where
      before : p < n
      before = parent_before t tree n p e

      go : (p ≡ m) ⊎ Contains (ancestors t p) m → m < n
      go (inl same) = omega (arith, before)
      go (inr above) = let b = higher p before above in omega (arith, before)

  -- the ancestors of a node stand before it
  ancestor_before : (t : Tree V) → IsTree t → (k n m : ℕ) → n ≤ k → Contains (ancestors t n) m → m < n
  ancestor_before t tree zero n m b among = above_one t tree n m (parent_of t n) refl among (λ p h a. absurd (omega arith))
  ancestor_before t tree (suc k) n m b among = above_one t tree n m (parent_of t n) refl among (λ p h a. ancestor_before t tree k p m (omega arith) a)

  -- an open node is a node
  pub open_inside : (t : Tree V) → IsTree t → (p : ℕ) → IsOpen t p → p < length t
  open_inside t tree p (last, e, inl same) = omega arith
  open_inside t tree p (last, e, inr above) = let b = ancestor_before t tree last last p (omega arith) above in omega arith

IsStrictlyIncreasing-push : (xs : List ℕ) (y : ℕ) → IsStrictlyIncreasing xs → ((x : ℕ) → Contains xs x → x < y) → IsStrictlyIncreasing (xs ++ y ∷ [])
IsStrictlyIncreasing-push xs y rises below = λ k h. go k h (cases_lt (k + 1) (length xs))
  where
    go : (k : ℕ) → k + 1 < length (xs ++ y ∷ []) → (k + 1 < length xs) ⊎ (length xs ≤ k + 1) → slice_index (xs ++ y ∷ []) k < slice_index (xs ++ y ∷ []) (k + 1)
    go k h (inl b) = let r = rises k b in rw (get_or_append_left xs (y ∷ []) 0 k (omega arith), get_or_append_left xs (y ∷ []) 0 (k + 1) b) r
    go k h (inr b) = let here : length xs ≡ k + 1 = omega (arith, length-append xs (y ∷ [])) in
        let r = below (get_or xs k 0) (Contains-get_or xs k 0 (omega arith)) in
        rw (get_or_append_left xs (y ∷ []) 0 k (omega arith), get_or_push xs y 0 (k + 1) here) r

-- a node of this rule and below p is added
module _ {V : Type 0} (t : Tree V) (tree : IsTree t) (rule p line column : ℕ) (open_p : IsOpen t p) where
  abbrev pub with_child : Tree V
  with_child = with_item t p (Child (length t))

  abbrev pub added : Node V
  added = record { rule = rule; parent = Some p; place = places t p + 1; line = line; column = column; items = [] }

  abbrev pub grown : Tree V
  grown = with_child ++ added ∷ []

  inside : p < length t
  inside = open_inside t tree p open_p

  length-child : length with_child ≡ length t
  length-child = length-with_item t p (Child (length t))

  pub length-grown : length grown ≡ length t + 1
  length-grown = length-append with_child (added ∷ []) ∙ ap (λ n. n + 1) length-child

  pub parent_of-grown : (n : ℕ) → n < length t → parent_of grown n ≡ parent_of t n
  parent_of-grown n h = parent_of_before with_child added n (omega (arith, length-child)) ∙ parent_of-with_item t p (Child (length t)) n

  pub place_of-grown : (n : ℕ) → n < length t → place_of grown n ≡ place_of t n
  place_of-grown n h = place_of_before with_child added n (omega (arith, length-child)) ∙ place_of-with_item t p (Child (length t)) n

  pub parent_of-added : parent_of grown (length t) ≡ Some p
  parent_of-added = parent_of_last with_child added (length t) (sym length-child)

  pub place_of-added : place_of grown (length t) ≡ places t p + 1
  place_of-added = place_of_last with_child added (length t) (sym length-child)

  pub items_of-parent : items_of grown p ≡ items_of t p ++ Child (length t) ∷ []
  items_of-parent = items_of-append with_child added refl p ∙ items_of-with_item t p (Child (length t)) inside

  pub items_of-other : (n : ℕ) → (p ≡ n → ⊥) → items_of grown n ≡ items_of t n
  items_of-other n other = items_of-append with_child added refl n ∙ items_of-with_item_other t p (Child (length t)) n other

  pub children-parent : children grown p ≡ children t p ++ length t ∷ []
  children-parent = ap (filter_map child_number) items_of-parent ∙ filter_map-append child_number (items_of t p) (Child (length t) ∷ [])

  pub children-other : (n : ℕ) → (p ≡ n → ⊥) → children grown n ≡ children t n
  children-other n other = ap (filter_map child_number) (items_of-other n other)

  -- a test that c is a node whose parent is n
  abbrev is_below : Tree V → ℕ → ℕ → Bool
  is_below s n c = nat_lt c (length s) && is_just n (parent_of s c)

  is_below-before : (n c : ℕ) → c < length t → is_below grown n c ≡ is_below t n c
  is_below-before n c h = rw (lt-ltb c (length grown) (omega (arith, length-grown)), lt-ltb c (length t) h) (ap (is_just n) (parent_of-grown c h))

  is_below-added : (n : ℕ) → is_below grown n (length t) ≡ nat_eq p n
  is_below-added n = rw (lt-ltb (length t) (length grown) (omega (arith, length-grown)), parent_of-added) refl

  is_below-past : (s : Tree V) (n c : ℕ) → length s ≤ c → is_below s n c ≡ false
  is_below-past s n c h = rw (le-ltb c (length s) h) refl

  abbrev Agrees : ℕ → ℕ → Type 0
  Agrees n c = contains c (children grown n) ≡ is_below grown n c

  agrees_other : (n c : ℕ) → (p ≡ n → ⊥) → Agrees n c
  agrees_other n c other = ap (contains c) (children-other n other) ∙ tree.items_agree n c ∙ go (cases_lt c (length t))
    where
      go : (c < length t) ⊎ (length t ≤ c) → is_below t n c ≡ is_below grown n c
      go (inl h) = sym (is_below-before n c h)
      go (inr h) = is_below-past t n c h ∙ later (eq-or-lt_of_le h)
        where
          later : (length t ≡ c) ⊎ (length t < c) → false ≡ is_below grown n c
          later (inl e) = sym (ap (is_below grown n) (sym e) ∙ is_below-added n ∙ ne_eqb p n other)
          later (inr past) = sym (is_below-past grown n c (omega (arith, length-grown)))

  agrees_parent : (c : ℕ) → Agrees p c
  agrees_parent c = ap (contains c) children-parent ∙ list_any-append (nat_eq c) (children t p) (length t ∷ []) ∙ ap (λ b. b || (nat_eq c (length t) || false)) (tree.items_agree p c) ∙ go (cases_lt c (length t))
    where
      go : (c < length t) ⊎ (length t ≤ c) → (is_below t p c || (nat_eq c (length t) || false)) ≡ is_below grown p c
      go (inl h) = rw (ne_eqb c (length t) (λ e. omega arith), or-false) (sym (is_below-before p c h))
      go (inr h) = rw (is_below-past t p c h) (later (eq-or-lt_of_le h))
        where
          later : (length t ≡ c) ⊎ (length t < c) → (nat_eq c (length t) || false) ≡ is_below grown p c
          later (inl e) = rw (eq-eqb c (length t) (sym e)) (sym (ap (is_below grown p) (sym e) ∙ is_below-added p ∙ eq-eqb p p refl))
          later (inr past) = rw (ne_eqb c (length t) (λ e. omega arith)) (sym (is_below-past grown p c (omega (arith, length-grown))))

  agrees : (n c : ℕ) → Agrees n c
  agrees n c = go (eqb_tells p n)
    where
      go : ((nat_eq p n ≡ true) × (p ≡ n)) ⊎ ((nat_eq p n ≡ false) × (p ≡ n → ⊥)) → Agrees n c
      go (inl same) = subst (λ m. Agrees m c) same.1 (agrees_parent c)
      go (inr other) = agrees_other n c other.1

  ascend : (n : ℕ) → IsStrictlyIncreasing (children grown n)
  ascend n = go (eqb_tells p n)
    where
      at_parent : IsStrictlyIncreasing (children grown p)
      at_parent = rw children-parent (IsStrictlyIncreasing-push (children t p) (length t) (tree.children_ascend p) (λ c m. (children_behind t tree p c m).1))

      go : ((nat_eq p n ≡ true) × (p ≡ n)) ⊎ ((nat_eq p n ≡ false) × (p ≡ n → ⊥)) → IsStrictlyIncreasing (children grown n)
      go (inl same) = subst (λ m. IsStrictlyIncreasing (children grown m)) same.1 at_parent
      go (inr other) = rw (children-other n other.1) (tree.children_ascend n)

  pub ancestors-grown : (n : ℕ) → n < length t → ancestors grown n ≡ ancestors t n
  ancestors-grown = ancestors_same grown t tree parent_of-grown

  continues-grown : (n : ℕ) (o : Option ℕ) → n < length t → continues grown n o ≡ continues t n o
  continues-grown n None h = refl
  continues-grown n (Some q) h = ap (λ above. nat_eq q n || contains q above) (ancestors-grown n h)

  continues-open : (last : ℕ) → length t ≡ suc last → (p ≡ last) ⊎ Contains (ancestors t last) p → IsTrue (continues t last (Some p))
  continues-open last e (inl same) = rw (eq-eqb p last same) refl
  continues-open last e (inr above) = rw (test-contains p (ancestors t last) above) (or-true (nat_eq p last))

  preorder : (n : ℕ) → n + 1 < length grown → IsTrue (continues grown n (parent_of grown (n + 1)))
  preorder n h = go (cases_lt (n + 1) (length t))
    where
      go : (n + 1 < length t) ⊎ (length t ≤ n + 1) → IsTrue (continues grown n (parent_of grown (n + 1)))
      go (inl b) = rw (parent_of-grown (n + 1) b, continues-grown n (parent_of t (n + 1)) (omega arith)) (tree.in_preorder n b)
      go (inr b) = let here : length t ≡ n + 1 = omega (arith, length-grown) in
          rw (← here, parent_of-added, continues-grown n (Some p) (omega arith)) (added_last open_p)
        where
          added_last : IsOpen t p → IsTrue (continues t n (Some p))
          added_last (last, e, way) = let same : last ≡ n = omega (arith, length-grown) in subst (λ m. IsTrue (continues t m (Some p))) same (continues-open last e way)

  places_agree_old : (n k c : ℕ) → item_at t n (suc k) ≡ Some (Child c) → place_of grown c ≡ suc k
  places_agree_old n k c e = place_of-grown c (children_behind t tree n c (Contains-child (items_of t n) k c e)).1 ∙ tree.places_agree n k c e

  places_agree_parent : (k c : ℕ) → slice_get (items_of t p ++ Child (length t) ∷ []) k ≡ Some (Child c) → place_of grown c ≡ suc k
  places_agree_parent k c e = go (cases_lt k (length (items_of t p)))
    where
      go : (k < length (items_of t p)) ⊎ (length (items_of t p) ≤ k) → place_of grown c ≡ suc k
      go (inl b) = places_agree_old p k c (sym (get_before (items_of t p) (Child (length t)) k b) ∙ e)
      go (inr b) = let here : k ≡ length (items_of t p) = at_end (slice_get_within (items_of t p ++ Child (length t) ∷ []) k (Child c) e) b in
          let same : c ≡ length t = one_child (slice_get (items_of t p ++ Child (length t) ∷ []) k) c (length t) e (get_last (items_of t p) (Child (length t)) k here) in
          ap (place_of grown) same ∙ place_of-added ∙ next k here
        where
          at_end : k < length (items_of t p ++ Child (length t) ∷ []) → length (items_of t p) ≤ k → k ≡ length (items_of t p)
          at_end h b = omega (arith, length-append (items_of t p) (Child (length t) ∷ []))

          next : (k : ℕ) → k ≡ length (items_of t p) → places t p + 1 ≡ suc k
          next k here = omega arith

          one_child : (o : Option (Item V)) (a b : ℕ) → o ≡ Some (Child a) → o ≡ Some (Child b) → a ≡ b
          one_child o a b e f = cc

  places_agree_grown : (n k c : ℕ) → item_at grown n (suc k) ≡ Some (Child c) → place_of grown c ≡ suc k
  places_agree_grown n k c e = go (eqb_tells p n)
    where
      go : ((nat_eq p n ≡ true) × (p ≡ n)) ⊎ ((nat_eq p n ≡ false) × (p ≡ n → ⊥)) → place_of grown c ≡ suc k
      go (inl same) = places_agree_parent k c (ap (λ items. slice_get items k) (sym items_of-parent ∙ ap (items_of grown) same.1) ∙ e)
      go (inr other) = places_agree_old n k c (ap (λ items. slice_get items k) (sym (items_of-other n other.1)) ∙ e)

  -- a tree stays one where a node is added below an open node
  pub IsTree-with_node : IsTree (with_node t rule (Some p) line column)
  IsTree-with_node = record {
    has_root = omega (arith, length-grown);
    root_first = parent_of-grown 0 tree.has_root ∙ tree.root_first;
    root_place = place_of-grown 0 tree.has_root ∙ tree.root_place;
    in_preorder = preorder;
    items_agree = agrees;
    children_ascend = ascend;
    places_agree = places_agree_grown;
  }

module _ (V : Type 0) (rule line column : ℕ) where
  abbrev first : Tree V
  first = with_node [] rule None line column

  agrees_first : (n c : ℕ) → contains c (children first n) ≡ (nat_lt c 1 && is_just n (parent_of first c))
  agrees_first zero zero = refl
  agrees_first (suc n) zero = refl
  agrees_first zero (suc c) = rw (le-ltb (suc c) 1 (omega arith)) refl
  agrees_first (suc n) (suc c) = rw (le-ltb (suc c) 1 (omega arith)) refl

  ascend_first : (n : ℕ) → IsStrictlyIncreasing (children first n)
  ascend_first zero = λ k h. absurd (omega arith)
  ascend_first (suc n) = λ k h. absurd (omega arith)

  places_first : (n k c : ℕ) → item_at first n (suc k) ≡ Some (Child c) → place_of first c ≡ suc k
  places_first zero k c e = cc
  places_first (suc n) k c e = cc

-- the first node alone is a tree
pub IsTree-first : {V : Type 0} (rule line column : ℕ) → IsTree (with_node {V = V} [] rule None line column)
IsTree-first {V = V} rule line column = record {
  has_root = omega arith;
  root_first = refl;
  root_place = refl;
  in_preorder = λ n h. absurd (omega arith);
  items_agree = agrees_first V rule line column;
  children_ascend = ascend_first V rule line column;
  places_agree = places_first V rule line column;
}

-- a terminal is added to an open node
module _ {V : Type 0} (t : Tree V) (tree : IsTree t) (p : ℕ) (v : V) (inside : p < length t) where
  abbrev with_leaf : Tree V
  with_leaf = with_item t p (Leaf v)

  children_kept : (n : ℕ) → children with_leaf n ≡ children t n
  children_kept n = go (eqb_tells p n)
    where
      at_parent : children with_leaf p ≡ children t p
      at_parent = ap (filter_map child_number) (items_of-with_item t p (Leaf v) inside) ∙ filter_map-append child_number (items_of t p) (Leaf v ∷ []) ∙ append-nil (children t p)

      go : ((nat_eq p n ≡ true) × (p ≡ n)) ⊎ ((nat_eq p n ≡ false) × (p ≡ n → ⊥)) → children with_leaf n ≡ children t n
      go (inl same) = subst (λ m. children with_leaf m ≡ children t m) same.1 at_parent
      go (inr other) = ap (filter_map child_number) (items_of-with_item_other t p (Leaf v) n other.1)

  continues_kept : (n : ℕ) (o : Option ℕ) → n < length t → continues with_leaf n o ≡ continues t n o
  continues_kept n None h = refl
  continues_kept n (Some q) h = ap (λ above. nat_eq q n || contains q above) (ancestors_same with_leaf t tree (λ m b. parent_of-with_item t p (Leaf v) m) n h)

  preorder_kept : (n : ℕ) → n + 1 < length with_leaf → IsTrue (continues with_leaf n (parent_of with_leaf (n + 1)))
  preorder_kept n h = let b : n + 1 < length t = omega (arith, length-with_item t p (Leaf v)) in
      rw (parent_of-with_item t p (Leaf v) (n + 1), continues_kept n (parent_of t (n + 1)) (omega arith)) (tree.in_preorder n b)

  item_kept : (n k c : ℕ) → item_at with_leaf n (suc k) ≡ Some (Child c) → item_at t n (suc k) ≡ Some (Child c)
  item_kept n k c e = go (eqb_tells p n)
    where
      at_parent : slice_get (items_of t p ++ Leaf v ∷ []) k ≡ Some (Child c) → (k < length (items_of t p)) ⊎ (length (items_of t p) ≤ k) → item_at t p (suc k) ≡ Some (Child c)
      at_parent f (inl b) = sym (get_before (items_of t p) (Leaf v) k b) ∙ f
      at_parent f (inr b) = let here : k ≡ length (items_of t p) = at_end (slice_get_within (items_of t p ++ Leaf v ∷ []) k (Child c) f) b in
          differ (sym (get_last (items_of t p) (Leaf v) k here) ∙ f)
        where
          at_end : k < length (items_of t p ++ Leaf v ∷ []) → length (items_of t p) ≤ k → k ≡ length (items_of t p)
          at_end h b = omega (arith, length-append (items_of t p) (Leaf v ∷ []))

          differ : Some (Leaf v) ≡ Some (Child c) → item_at t p (suc k) ≡ Some (Child c)
          differ e = cc

      go : ((nat_eq p n ≡ true) × (p ≡ n)) ⊎ ((nat_eq p n ≡ false) × (p ≡ n → ⊥)) → item_at t n (suc k) ≡ Some (Child c)
      go (inl same) = subst (λ m. item_at t m (suc k) ≡ Some (Child c)) same.1 (at_parent (ap (λ items. slice_get items k) (sym (items_of-with_item t p (Leaf v) inside) ∙ ap (items_of with_leaf) same.1) ∙ e) (cases_lt k (length (items_of t p))))
      go (inr other) = ap (λ items. slice_get items k) (sym (items_of-with_item_other t p (Leaf v) n other.1)) ∙ e

  -- a tree stays one where a terminal is added to a node
  pub IsTree-with_leaf : IsTree (with_item t p (Leaf v))
  IsTree-with_leaf = record {
    has_root = let h = tree.has_root in omega (arith, length-with_item t p (Leaf v));
    root_first = parent_of-with_item t p (Leaf v) 0 ∙ tree.root_first;
    root_place = place_of-with_item t p (Leaf v) 0 ∙ tree.root_place;
    in_preorder = preorder_kept;
    items_agree = λ n c. ap (contains c) (children_kept n) ∙ tree.items_agree n c ∙ sym (rw (length-with_item t p (Leaf v), parent_of-with_item t p (Leaf v) c) refl);
    children_ascend = λ n. rw (children_kept n) (tree.children_ascend n);
    places_agree = λ n k c e. place_of-with_item t p (Leaf v) c ∙ tree.places_agree n k c (item_kept n k c e);
  }

-- an open node of a table that is empty or a tree is a node
pub open_in : {V : Type 0} (t : Tree V) → IsEmptyOrTree t → (p : ℕ) → IsOpen t p → p < length t
open_in t tree p (last, e, way) = open_inside t (tree (omega arith)) p (last, e, way)

-- a tree with one node more where it can stand
pub IsTree-grown : {V : Type 0} (t : Tree V) → IsEmptyOrTree t → (rule : ℕ) (parent : Option ℕ) (line column : ℕ) → IsNext t parent → IsTree (with_node t rule parent line column)
IsTree-grown t tree rule None line column e = rw e (IsTree-first rule line column)
IsTree-grown t tree rule (Some p) line column (last, e, way) = IsTree-with_node t (tree (omega arith)) rule p line column (last, e, way)

-- a tree with one terminal more at an open node
pub IsTree-leaf : {V : Type 0} (t : Tree V) → IsEmptyOrTree t → (p : ℕ) (v : V) → IsOpen t p → IsTree (with_item t p (Leaf v))
IsTree-leaf t tree p v (last, e, way) = let there : IsTree t = tree (omega arith) in IsTree-with_leaf t there p v (open_inside t there p (last, e, way))

-- a node that is added is one node more
pub length-with_node : {V : Type 0} (t : Tree V) (rule : ℕ) (parent : Option ℕ) (line column : ℕ) → length (with_node t rule parent line column) ≡ length t + 1
length-with_node t rule None line column = length-append t _
length-with_node t rule (Some p) line column = length-append (with_item t p (Child (length t))) _ ∙ ap (λ n. n + 1) (length-with_item t p (Child (length t)))
