-- A list's cell has one rule for each right side.
use Rattle.std.specs.Prelude.{Contains, slice_get, true, false, not, Bool, map, filter, cond}
use Rattle.std.proofs.Common.{◌≡◌, ℕ, zero, suc, ◌⊎◌, inl, inr, List, [], ◌∷◌, ◌++◌, Some, refl, ap, sym, subst, ◌∙◌, arith, eq-eqb}
use Rattle.lido_base.specs.declared.ids.SymId.{SymId}
use Rattle.flat_grammar.specs.declared.flat.FlatSymbol.{FlatSymbol}
use Rattle.flat_grammar.specs.declared.flat.FlatRule.{FlatRule}
use Rattle.flat_grammar.specs.declared.flat.Shape.{Shape}
use Rattle.flat_grammar.specs.WellFormed.{is_same_symbol, different, IsListShape}
use Rattle.flat_grammar.proofs.Lists.{contains-nil, contains-cons, contains-later}

-- no element stands twice
abbrev Differ : {X : Type 0} → List X → Type 0
Differ [] = Unit {0}
Differ (x ∷ xs) = (Contains xs x → ⊥) × Differ xs

some_same : {X : Type 0} {x y : X} → Some x ≡ Some y → x ≡ y
some_same e = cc

filter_among : {X : Type 0} (p : X → Bool) (xs : List X) (x : X) → Contains (filter p xs) x → Contains xs x × (p x ≡ true)
filter_among p [] x m = absurd (contains-nil x m)
filter_among {X} p (y ∷ xs) x m = go (p y) refl m (filter_among p xs x)
  where
    later : Contains xs x × (p x ≡ true) → Contains (y ∷ xs) x × (p x ≡ true)
    later (a, e) = (contains-later y x xs a, e)

    go : (b : Bool) → p y ≡ b → Contains (cond b (y ∷ filter p xs) (filter p xs)) x → (Contains (filter p xs) x → Contains xs x × (p x ≡ true))
        → Contains (y ∷ xs) x × (p x ≡ true)
    go false e m ih = later (ih m)
    go true e m ih = at (contains-cons y x (filter p xs) m)
      where
        at : (y ≡ x) ⊎ Contains (filter p xs) x → Contains (y ∷ xs) x × (p x ≡ true)
        at (inl same) = ((zero, (omega arith), same), ap p (sym same) ∙ e)
        at (inr n) = later (ih n)

filter_differ : {X : Type 0} (p : X → Bool) (xs : List X) → Differ xs → Differ (filter p xs)
filter_differ p [] d = tt
filter_differ p (y ∷ xs) d = go (p y) (filter_differ p xs d.1)
  where
    go : (b : Bool) → Differ (filter p xs) → Differ (cond b (y ∷ filter p xs) (filter p xs))
    go false ih = ih
    go true ih = ((λ m. d.0 (filter_among p xs y m).0), ih)

different_differ : (xs : List SymId) → Differ (different xs)
different_differ [] = tt
different_differ (s ∷ xs) = (own, filter_differ other (different xs) (different_differ xs))
  where
    other : SymId → Bool
    other q = not (is_same_symbol s q)

    own : Contains (filter (λ (q : SymId). not (is_same_symbol s q)) (different xs)) s → ⊥
    own m = let e = (filter_among (λ (q : SymId). not (is_same_symbol s q)) (different xs) s m).1 in
        let same : is_same_symbol s s ≡ true = eq-eqb s.0 s.0 refl in no (is_same_symbol s s) same e
      where
        no : (b : Bool) → b ≡ true → not b ≡ true → ⊥
        no true e f = cc
        no false e f = cc

module _ (cell : SymId) where
  abbrev ends : List SymId → List (List SymId)
  ends ss = map (λ (s : SymId). s ∷ cell ∷ []) ss ++ [] ∷ []

  among_ends : (ss : List SymId) (s : SymId) → Contains (ends ss) (s ∷ cell ∷ []) → Contains ss s
  among_ends [] s m = go (contains-cons [] (s ∷ cell ∷ []) [] m)
    where
      go : ([] ≡ s ∷ cell ∷ []) ⊎ Contains [] (s ∷ cell ∷ []) → Contains [] s
      go (inl e) = cc
      go (inr n) = absurd (contains-nil (s ∷ cell ∷ []) n)
  among_ends (q ∷ ss) s m = go (contains-cons (q ∷ cell ∷ []) (s ∷ cell ∷ []) (ends ss) m) (among_ends ss s)
    where
      go : (q ∷ cell ∷ [] ≡ s ∷ cell ∷ []) ⊎ Contains (ends ss) (s ∷ cell ∷ []) → (Contains (ends ss) (s ∷ cell ∷ []) → Contains ss s)
          → Contains (q ∷ ss) s
      go (inl e) ih = let same : q ≡ s = cc in (zero, (omega arith), same)
      go (inr n) ih = contains-later q s ss (ih n)

  ends_differ : (ss : List SymId) → Differ ss → Differ (ends ss)
  ends_differ [] d = (contains-nil [], tt)
  ends_differ (s ∷ ss) d = ((λ m. d.0 (among_ends ss s m)), ends_differ ss d.1)

  abbrev sides : List FlatRule → List (List SymId)
  sides rules = map (λ (r : FlatRule). r.right) (filter (λ (r : FlatRule). is_same_symbol r.left cell) rules)

  abbrev more_sides : Bool → FlatRule → List FlatRule → List (List SymId)
  more_sides b r rules = map (λ (r : FlatRule). r.right)
      (cond b (r ∷ filter (λ (r : FlatRule). is_same_symbol r.left cell) rules) (filter (λ (r : FlatRule). is_same_symbol r.left cell) rules))

  passes : (r : FlatRule) → r.left ≡ cell → is_same_symbol r.left cell ≡ true
  passes r e = eq-eqb r.left.0 cell.0 (ap (λ (s : SymId). s.0) e)

  -- a rule of the cell has its right side among them
  among_sides : (rules : List FlatRule) (j : ℕ) (q : FlatRule) → slice_get rules j ≡ Some q → q.left ≡ cell → Contains (sides rules) q.right
  among_sides [] j q e left = cc
  among_sides (r ∷ rules) zero q e left = let same : r ≡ q = some_same e in
      subst (λ b. Contains (more_sides b r rules) q.right) (sym (ap (λ (r : FlatRule). is_same_symbol r.left cell) same ∙ passes q left))
      (zero, (omega arith), ap (λ (r : FlatRule). r.right) same)
  among_sides (r ∷ rules) (suc j) q e left = go (is_same_symbol r.left cell) (among_sides rules j q e left)
    where
      go : (b : Bool) → Contains (sides rules) q.right → Contains (more_sides b r rules) q.right
      go true m = contains-later r.right q.right (sides rules) m
      go false m = m

  differ_later : (r : FlatRule) (rules : List FlatRule) → Differ (sides (r ∷ rules)) → Differ (sides rules)
  differ_later r rules d = go (is_same_symbol r.left cell) d
    where
      go : (b : Bool) → Differ (more_sides b r rules) → Differ (sides rules)
      go true d = d.1
      go false d = d

  -- a later rule of the cell has another right side
  not_again : (r : FlatRule) (rules : List FlatRule) → Differ (sides (r ∷ rules)) → r.left ≡ cell → (j : ℕ) (q : FlatRule)
      → slice_get rules j ≡ Some q → q.left ≡ cell → r.right ≡ q.right → ⊥
  not_again r rules d left j q e other same =
      (subst (λ b. Differ (more_sides b r rules)) (passes r left) d).0 (subst (Contains (sides rules)) (sym same) (among_sides rules j q e other))

  once : (rules : List FlatRule) → Differ (sides rules) → (i j : ℕ) (r q : FlatRule) → slice_get rules i ≡ Some r → slice_get rules j ≡ Some q
      → r.left ≡ cell → q.left ≡ cell → r.right ≡ q.right → i ≡ j
  once [] d i j r q e f left other same = cc
  once (x ∷ rules) d zero zero r q e f left other same = refl
  once (x ∷ rules) d zero (suc j) r q e f left other same = let here : x ≡ r = some_same e in
      absurd (not_again x rules d (ap (λ (r : FlatRule). r.left) here ∙ left) j q f other (ap (λ (r : FlatRule). r.right) here ∙ same))
  once (x ∷ rules) d (suc i) zero r q e f left other same = let here : x ≡ q = some_same f in
      absurd (not_again x rules d (ap (λ (r : FlatRule). r.left) here ∙ other) i r e left (ap (λ (r : FlatRule). r.right) here ∙ sym same))
  once (x ∷ rules) d (suc i) (suc j) r q e f left other same = ap suc (once rules (differ_later x rules d) i j r q e f left other same)

-- two rules of a list's cell with the same right side are one
pub one_cell_rule : (symbols : List FlatSymbol) (rules : List FlatRule) (shape : Shape) (cell : SymId) → IsListShape symbols rules shape cell
    → (i j : ℕ) (r q : FlatRule) → slice_get rules i ≡ Some r → slice_get rules j ≡ Some q → r.left ≡ cell → q.left ≡ cell → r.right ≡ q.right → i ≡ j
one_cell_rule symbols rules shape cell list i j r q e f left other same =
    once cell rules (subst Differ (sym list.cells)
    (ends_differ cell (different shape.right) (different_differ shape.right))) i j r q e f left other same
