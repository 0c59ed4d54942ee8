-- What the words on trees compute to.
use Rattle.std.specs.Prelude.{Contains, Bool, true, false, IsTrue, ◌||◌, ◌&&◌, nat_eq, nat_lt}
use Rattle.std.proofs.Common.{◌≡◌, ℕ, zero, suc, ◌+◌, ◌-◌, ◌<◌, ◌≤◌, ◌⊎◌, inl, inr, List, [], ◌∷◌, length, Option, Some, None, refl, arith, ap, sym, ◌∙◌, add-one, eqb-true, eq-eqb, ltb-true}
use Rattle.lido_base.specs.Tree.{Tree, unroll, children, parent_of, and_above, ancestors, from_children, contains, continues, is_just, AsksBelow, IsTree}
pub use Rattle.lido_base.proofs.Lists.{contains-cons}

-- each child stands behind its parent and in the table
abbrev pub ChildrenBehind : {V : Type 0} → Tree V → Type 0
ChildrenBehind t = (n c : ℕ) → Contains (children t n) c → (n < c) × (c < length t)

module _ {V X : Type 0} (t : Tree V) (nothing : X) (step : (ℕ → X) → ℕ → X) (asks : AsksBelow t step) (behind : ChildrenBehind t) where
  unroll_same : (j k n : ℕ) → n < length t → length t ≤ j + n → length t ≤ k + n → unroll nothing step j n ≡ unroll nothing step k n
  unroll_same zero k n h a b = absurd (omega arith)
  unroll_same (suc j) zero n h a b = absurd (omega arith)
  unroll_same (suc j) (suc k) n h a b = asks n _ _ (λ c m. let d = behind n c m in unroll_same j k c d.1 (omega arith) (omega arith))

  pub from_children-step : (n : ℕ) → n < length t → from_children t nothing step n ≡ step (from_children t nothing step) n
  unfolding from_children
  from_children-step n h =
      unroll_same (length t - n) (suc (length t - n)) n h (omega arith) (omega arith)
      ∙ asks n _ _ (λ c m. let d = behind n c m in unroll_same (length t - n) (length t - c) c d.1 (omega arith) (omega arith))

  -- it is the only such function
  pub from_children-only : (f : ℕ → X) → ((n : ℕ) → n < length t → f n ≡ step f n) → (n : ℕ) → n < length t → f n ≡ from_children t nothing step n
  from_children-only f is_step n h = go (length t - n) n h (omega arith)
    where
      go : (k n : ℕ) → n < length t → length t ≤ k + n → f n ≡ from_children t nothing step n
      go zero n h e = absurd (omega arith)
      go (suc k) n h e = is_step n h ∙ asks n _ _ (λ c m. let d = behind n c m in go k c d.1 (omega arith)) ∙ sym (from_children-step n h)

some_first : (above : ℕ → List ℕ) (o : Option ℕ) (m : ℕ) → Contains (and_above above o) m → (p : ℕ) × (o ≡ Some p) × ((p ≡ m) ⊎ Contains (above p) m)
some_first above None m h = absurd (omega (arith, h.1))
some_first above (Some p) m h = (p, refl, contains-cons p m (above p) h)

-- the ancestors that so many turns find
abbrev climb : {V : Type 0} → Tree V → ℕ → ℕ → List ℕ
climb t turns n = unroll [] (λ above i. and_above above (parent_of t i)) turns n

pub both : (a b : Bool) → IsTrue (a && b) → IsTrue a × IsTrue b
both true b h = (refl, h)
both false b h = cc

pub either : (a b : Bool) → IsTrue (a || b) → IsTrue a ⊎ IsTrue b
either true b h = inl refl
either false b h = inr h

pub contains-test : (x : ℕ) (xs : List ℕ) → IsTrue (contains x xs) → Contains xs x
contains-test x [] h = cc
contains-test x (y ∷ xs) h = go (either (nat_eq x y) (contains x xs) h) (contains-test x xs)
  where
    go : IsTrue (nat_eq x y) ⊎ IsTrue (contains x xs) → (IsTrue (contains x xs) → Contains xs x) → Contains (y ∷ xs) x
    go (inl e) later = (zero, (omega arith), sym (eqb-true x y e))
    go (inr m) later = let k = later m in (suc k.0, (omega (arith, k.1)), k.2)

pub test-contains : (x : ℕ) (xs : List ℕ) → Contains xs x → IsTrue (contains x xs)
test-contains x [] h = absurd (omega (arith, h.1))
test-contains x (y ∷ xs) h = go (contains-cons y x xs h) (test-contains x xs)
  where
    go : (y ≡ x) ⊎ Contains xs x → (Contains xs x → IsTrue (contains x xs)) → IsTrue (contains x (y ∷ xs))
    go (inl e) later = rw (eq-eqb x y (sym e)) refl
    go (inr m) later = rw (later m) (or_true (nat_eq x y))
      where
        or_true : (b : Bool) → (b || true) ≡ true
        or_true true = refl
        or_true false = refl

pub is_just-some : (n : ℕ) (o : Option ℕ) → IsTrue (is_just n o) → o ≡ Some n
is_just-some n None h = cc
is_just-some n (Some m) h = ap Some (eqb-true m n h)

-- what has a parent is a node of the table
inside : {V : Type 0} (t : Tree V) (n p : ℕ) → parent_of t n ≡ Some p → n < length t
inside [] n p e = cc
inside (node ∷ t) zero p e = omega arith
inside (node ∷ t) (suc n) p e = let h = inside t n p e in omega arith

module _ {V : Type 0} (t : Tree V) (w : IsTree t) where
  record Before (n : ℕ) : Type 0 where
    parent : (p : ℕ) → parent_of t n ≡ Some p → p < n
    above : (turns m : ℕ) → Contains (climb t turns n) m → m < n

  up : (n : ℕ) → ((p : ℕ) → parent_of t n ≡ Some p → (p < n) × Before p) → Before n
  up n higher = record { parent = λ p e. (higher p e).0; above = found }
    where
      found : (turns m : ℕ) → Contains (climb t turns n) m → m < n
      found zero m h = absurd (omega (arith, h.1))
      found (suc turns) m h = go (some_first (climb t turns) (parent_of t n) m h)
        where
          go : (p : ℕ) × (parent_of t n ≡ Some p) × ((p ≡ m) ⊎ Contains (climb t turns p) m) → m < n
          go (p, e, inl same) = let q = higher p e in omega (arith, q.0)
          go (p, e, inr among) = let q = higher p e in omega (arith, q.0, q.1.above turns m among)

  some-inj : (p q : ℕ) → Some p ≡ Some q → p ≡ q
  some-inj p q e = cc

  before : (k n : ℕ) → n ≤ k → n < length t → Before n
  before k zero a h = up zero (λ p e. cc (w.root_first))
  before zero (suc n) a h = absurd (omega arith)
  before (suc k) (suc n) a h = up (suc n) (higher (λ m b. before k m (omega arith) (omega arith)))
    where
      higher : ((m : ℕ) → m ≤ n → Before m) → (p : ℕ) → parent_of t (suc n) ≡ Some p → (p < suc n) × Before p
      higher earlier p e = go (parent_of t (n + 1)) refl (w.in_preorder n (omega arith))
        where
          at_q : (q : ℕ) → parent_of t (n + 1) ≡ Some q → q ≤ n → (p < suc n) × Before p
          at_q q f b = let same : p ≡ q = some-inj p q (sym e ∙ ap (parent_of t) (sym (add-one n)) ∙ f) in (omega arith, earlier p (omega arith))

          at_one : (q : ℕ) → parent_of t (n + 1) ≡ Some q → IsTrue (nat_eq q n) ⊎ IsTrue (contains q (ancestors t n)) → (p < suc n) × Before p
          at_one q f (inl same) = let here : q ≡ n = eqb-true q n same in at_q q f (omega arith)
          at_one q f (inr among) = at_q q f (let b = (earlier n (omega arith)).above n q (unfold ancestors in (contains-test q (ancestors t n) among)) in omega arith)

          go : (o : Option ℕ) → parent_of t (n + 1) ≡ o → IsTrue (continues t n o) → (p < suc n) × Before p
          go None f h = cc
          go (Some q) f h = at_one q f (either (nat_eq q n) (contains q (ancestors t n)) h)

  pub children_behind : ChildrenBehind t
  children_behind n c m =
      let a = both (nat_lt c (length t)) (is_just n (parent_of t c)) (sym (w.items_agree n c) ∙ test-contains c (children t n) m) in
      let inside : c < length t = ltb-true c (length t) a.0 in
      ((before c c (omega arith) inside).parent n (is_just-some n (parent_of t c) a.1), inside)

  -- a parent stands before its children
  pub parent_before : (n p : ℕ) → parent_of t n ≡ Some p → p < n
  parent_before n p e = (before n n (omega arith) (inside t n p e)).parent p e

  -- as many turns as there are nodes before this one find all its ancestors
  climb-same : (j k n : ℕ) → n ≤ j → n ≤ k → climb t j n ≡ climb t k n
  climb-same zero zero n a b = refl
  climb-same zero (suc k) n a b = sym (at_root k n (omega arith))
    where
      at_root : (k n : ℕ) → n ≤ 0 → climb t (suc k) n ≡ []
      at_root k zero h = rw w.root_first refl
      at_root k (suc n) h = absurd (omega arith)
  climb-same (suc j) zero n a b = at_root j n (omega arith)
    where
      at_root : (k n : ℕ) → n ≤ 0 → climb t (suc k) n ≡ []
      at_root k zero h = rw w.root_first refl
      at_root k (suc n) h = absurd (omega arith)
  climb-same (suc j) (suc k) n a b = go (parent_of t n) refl (λ p. climb-same j k p)
    where
      go : (o : Option ℕ) → parent_of t n ≡ o → ((p : ℕ) → p ≤ j → p ≤ k → climb t j p ≡ climb t k p) → and_above (climb t j) o ≡ and_above (climb t k) o
      go None e below = refl
      go (Some p) e below = let h = parent_before n p e in ap (λ ps. p ∷ ps) (below p (omega arith) (omega arith))

  -- above a node stand its parent and what is above that
  pub ancestors-child : (n p : ℕ) → parent_of t n ≡ Some p → ancestors t n ≡ p ∷ ancestors t p
  unfolding ancestors
  ancestors-child zero p e = cc (w.root_first)
  ancestors-child (suc n) p e = let h = parent_before (suc n) p e in rw e (ap (λ ps. p ∷ ps) (climb-same n p p (omega arith) (omega arith)))

-- nothing stands above a node without a parent
pub ancestors-root : {V : Type 0} (t : Tree V) (n : ℕ) → parent_of t n ≡ None → ancestors t n ≡ []
unfolding ancestors
ancestors-root t zero e = refl
ancestors-root t (suc n) e = rw e refl
