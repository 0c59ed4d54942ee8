-- What a well formed grammar says of its shapes, lists and cells.
use Rattle.std.specs.Prelude.{Contains, slice_get, true, false, not, Bool, IsTrue, map, filter, cond, ◌&&◌, ◌||◌, option_map, ◌^◌}
use Rattle.std.specs.List.{list_any}
use Rattle.std.proofs.Common.{◌≡◌, ℕ, zero, suc, ◌+◌, ◌<◌, ◌⊎◌, inl, inr, List, [], ◌∷◌, ◌++◌, length, Some, refl, ap, sym, subst, ◌∙◌, arith, eqb-true, eq-eqb}
use Rattle.std.proofs.lemmas.Option.{slice_get-map}
use Rattle.std.proofs.lemmas.List.Elements.{All-contains}
use Rattle.lido_base.specs.declared.ids.SymId.{SymId}
use Rattle.flat_grammar.specs.declared.flat.FlatSymbol.{FlatSymbol}
use Rattle.flat_grammar.specs.declared.flat.FlatRule.{FlatRule}
use Rattle.flat_grammar.specs.declared.flat.Shape.{Shape}
use Rattle.flat_grammar.specs.WellFormed.{is_same_symbol, different, is_nonterminal, IsRule, positions_from, right_side, cell_of, IsListShape, IsWellFormed}
use Rattle.flat_grammar.specs.FlatTrees.{is_cell}
use Rattle.flat_grammar.proofs.Lists.{contains-cons, contains-first, contains-later, slice_get-contains, contains-slice_get}
use Rattle.tree_flattener.proofs.GrowLemmas.{some_same}

pub same_symbol : (s q : SymId) → is_same_symbol s q ≡ true → s ≡ q
same_symbol s q e = let n : s.0 ≡ q.0 = eqb-true s.0 q.0 e in let f : ℕ → SymId = λ k. record { 0 = k } in ap f n

map_has : {X Y : Type 0} (f : X → Y) (xs : List X) (x : X) → Contains xs x → Contains (map f xs) (f x)
map_has f [] x h = absurd (omega (arith, h.1))
map_has f (y ∷ xs) x h = go (contains-cons y x xs h) (map_has f xs x)
  where
    go : (y ≡ x) ⊎ Contains xs x → (Contains xs x → Contains (map f xs) (f x)) → Contains (f y ∷ map f xs) (f x)
    go (inl e) ih = subst (λ z. Contains (f y ∷ map f xs) (f z)) e (contains-first (f y) (map f xs))
    go (inr m) ih = contains-later (f y) (f x) (map f xs) (ih m)

filter_has : {X : Type 0} (p : X → Bool) (xs : List X) (x : X) → Contains xs x → p x ≡ true → Contains (filter p xs) x
filter_has p [] x h e = absurd (omega (arith, h.1))
filter_has {X = X} p (y ∷ xs) x h e = go (contains-cons y x xs h) (filter_has p xs x)
  where
    later : (b : Bool) → Contains (filter p xs) x → Contains (cond b (y ∷ filter p xs) (filter p xs)) x
    later true m = contains-later y x (filter p xs) m
    later false m = m

    go : (y ≡ x) ⊎ Contains xs x → (Contains xs x → p x ≡ true → Contains (filter p xs) x) → Contains (cond (p y) (y ∷ filter p xs) (filter p xs)) x
    go (inl same) ih = subst (λ b. Contains (cond b (y ∷ filter p xs) (filter p xs)) x) (sym (ap p same ∙ e)) (subst (Contains (y ∷ filter p xs)) same (contains-first y (filter p xs)))
    go (inr m) ih = later (p y) (ih m e)

append_has : {X : Type 0} (xs : List X) (y x : X) → (Contains xs x ⊎ (y ≡ x)) → Contains (xs ++ y ∷ []) x
append_has [] y x (inl m) = absurd (omega (arith, m.1))
append_has [] y x (inr e) = subst (Contains (y ∷ [])) e (contains-first y [])
append_has (z ∷ xs) y x (inr e) = contains-later z x (xs ++ y ∷ []) (append_has xs y x (inr e))
append_has (z ∷ xs) y x (inl m) = go (contains-cons z x xs m) (λ n. append_has xs y x (inl n))
  where
    go : (z ≡ x) ⊎ Contains xs x → (Contains xs x → Contains (xs ++ y ∷ []) x) → Contains (z ∷ (xs ++ y ∷ [])) x
    go (inl e) ih = subst (Contains (z ∷ (xs ++ y ∷ []))) e (contains-first z (xs ++ y ∷ []))
    go (inr n) ih = contains-later z x (xs ++ y ∷ []) (ih n)

different_has : (xs : List SymId) (s : SymId) → Contains xs s → Contains (different xs) s
different_has [] s h = absurd (omega (arith, h.1))
different_has (x ∷ xs) s h = go (contains-cons x s xs h) (different_has xs s)
  where
    here : x ≡ s → Contains (different (x ∷ xs)) s
    here e = subst (Contains (different (x ∷ xs))) e (contains-first x (filter (λ q. not (is_same_symbol x q)) (different xs)))

    go : (x ≡ s) ⊎ Contains xs s → (Contains xs s → Contains (different xs) s) → Contains (different (x ∷ xs)) s
    go (inl e) ih = here e
    go (inr m) ih = pick (is_same_symbol x s) refl
      where
        pick : (b : Bool) → is_same_symbol x s ≡ b → Contains (different (x ∷ xs)) s
        pick true e = here (same_symbol x s e)
        pick false e = contains-later x s (filter (λ q. not (is_same_symbol x q)) (different xs)) (filter_has (λ q. not (is_same_symbol x q)) (different xs) s (ih m) (ap not e))

abbrev Found : SymId → List SymId → List FlatRule → Type 0
Found cell rs rules = (k : ℕ) × (q : FlatRule) × (slice_get rules k ≡ Some q) × (q.left ≡ cell) × (q.right ≡ rs)

-- a right side is that of a rule
side_there : (rules : List FlatRule) (cell : SymId) (rs : List SymId) → Contains (map (λ (r : FlatRule). r.right) (filter (λ (r : FlatRule). is_same_symbol r.left cell) rules)) rs
    → (k : ℕ) × (r : FlatRule) × (slice_get rules k ≡ Some r) × (r.left ≡ cell) × (r.right ≡ rs)
side_there [] cell rs h = absurd (omega (arith, h.1))
side_there (r ∷ rules) cell rs h = go (is_same_symbol r.left cell) refl h (side_there rules cell rs)
  where
    later : Found cell rs rules → Found cell rs (r ∷ rules)
    later (k, q, got, left, right) = (suc k, q, got, left, right)

    go : (b : Bool) → is_same_symbol r.left cell ≡ b → Contains (map (λ (q : FlatRule). q.right) (cond b (r ∷ filter (λ (q : FlatRule). is_same_symbol q.left cell) rules) (filter (λ (q : FlatRule). is_same_symbol q.left cell) rules))) rs
        → (Contains (map (λ (q : FlatRule). q.right) (filter (λ (q : FlatRule). is_same_symbol q.left cell) rules)) rs → Found cell rs rules) → Found cell rs (r ∷ rules)
    go true e h ih = at (contains-cons r.right rs (map (λ (q : FlatRule). q.right) (filter (λ (q : FlatRule). is_same_symbol q.left cell) rules)) h)
      where
        at : (r.right ≡ rs) ⊎ Contains (map (λ (q : FlatRule). q.right) (filter (λ (q : FlatRule). is_same_symbol q.left cell) rules)) rs → Found cell rs (r ∷ rules)
        at (inl same) = (0, r, refl, same_symbol r.left cell e, same)
        at (inr m) = later (ih m)
    go false e h ih = later (ih h)

-- the places of the rules that pass
module _ (p : FlatRule → Bool) where
  abbrev Passes : List FlatRule → ℕ → ℕ → Type 0
  Passes rules k x = (j : ℕ) × (r : FlatRule) × (x ≡ k + j) × (slice_get rules j ≡ Some r) × (p r ≡ true)

  position_at : (rules : List FlatRule) (k i x : ℕ) → slice_get (positions_from p k rules) i ≡ Some x → Passes rules k x
  position_at [] k i x e = cc
  position_at (r ∷ rules) k i x e = go (p r) refl i e (λ j. position_at rules (suc k) j x)
    where
      later : Passes rules (suc k) x → Passes (r ∷ rules) k x
      later (j, q, at, got, pass) = (suc j, q, omega arith, got, pass)

      go : (b : Bool) → p r ≡ b → (i : ℕ) → slice_get (cond b (k ∷ positions_from p (suc k) rules) (positions_from p (suc k) rules)) i ≡ Some x → ((j : ℕ) → slice_get (positions_from p (suc k) rules) j ≡ Some x → Passes rules (suc k) x) → Passes (r ∷ rules) k x
      go true pass zero e more = let same : k ≡ x = some_same e in (0, r, omega arith, refl, pass)
      go true pass (suc i) e more = later (more i e)
      go false fail i e more = later (more i e)

  position_rises : (rules : List FlatRule) (k i j x y : ℕ) → slice_get (positions_from p k rules) i ≡ Some x → slice_get (positions_from p k rules) j ≡ Some y → i < j → x < y
  position_rises [] k i j x y e f h = cc
  position_rises (r ∷ rules) k i j x y e f h = go (p r) i j e f h (λ a b. position_rises rules (suc k) a b x y)
    where
      go : (b : Bool) (i j : ℕ) → slice_get (cond b (k ∷ positions_from p (suc k) rules) (positions_from p (suc k) rules)) i ≡ Some x → slice_get (cond b (k ∷ positions_from p (suc k) rules) (positions_from p (suc k) rules)) j ≡ Some y → i < j → ((a b : ℕ) → slice_get (positions_from p (suc k) rules) a ≡ Some x → slice_get (positions_from p (suc k) rules) b ≡ Some y → a < b → x < y) → x < y
      go true i zero e f h more = absurd (omega arith)
      go true zero (suc j) e f h more = let same : k ≡ x = some_same e in let late = position_at rules (suc k) j y f in omega (arith, late.2)
      go true (suc i) (suc j) e f h more = more i j e f (omega arith)
      go false i j e f h more = more i j e f h

not_true : (b : Bool) → not b ≡ true → b ≡ false
not_true true e = cc
not_true false e = refl

module _ (symbols : List FlatSymbol) (rules : List FlatRule) (shapes : List Shape) (root : SymId) (well : IsWellFormed symbols rules shapes root) where
  abbrev plain_rule : FlatRule → Bool
  plain_rule r = not (is_cell rules shapes r.left)

  shape_place : (i : ℕ) (shape : Shape) → slice_get shapes i ≡ Some shape → slice_get (positions_from plain_rule 0 rules) i ≡ Some shape.rule.0
  shape_place i shape e = ap (λ xs. slice_get xs i) (sym well.each_shape) ∙ slice_get-map (λ (s : Shape). s.rule.0) shapes i ∙ ap (option_map (λ (s : Shape). s.rule.0)) e

  -- a shape has a rule, whose left side is no cell
  pub shape_rule : (shape : Shape) → Contains shapes shape → (r : FlatRule) × (slice_get rules shape.rule.0 ≡ Some r) × (is_cell rules shapes r.left ≡ false)
  shape_rule shape among = let at = slice_get-contains shapes shape among in let (j, r, here, got, pass) = position_at plain_rule rules 0 at.0 shape.rule.0 (shape_place at.0 shape at.1) in
      (r, ap (slice_get rules) (let e : shape.rule.0 ≡ j = omega arith in e) ∙ got, not_true (is_cell rules shapes r.left) pass)

  -- the rules of two shapes are different
  pub shape_rules_rise : (i j : ℕ) (shape other : Shape) → slice_get shapes i ≡ Some shape → slice_get shapes j ≡ Some other → i < j → shape.rule.0 < other.rule.0
  shape_rules_rise i j shape other e f h = position_rises plain_rule rules 0 i j shape.rule.0 other.rule.0 (shape_place i shape e) (shape_place j other f) h

  pub list_shape : (shape : Shape) → Contains shapes shape → shape.list ≡ true → IsListShape symbols rules shape (cell_of rules shape)
  list_shape shape among list = All-contains (λ (s : Shape). IsTrue s.list → IsListShape symbols rules s (cell_of rules s)) shapes shape well.each_list among list

  abbrev has_cell : SymId → Shape → Bool
  has_cell cell s = s.list && is_same_symbol cell (cell_of rules s)

  -- a list's cell is one
  pub is_cell_of : (shape : Shape) → Contains shapes shape → shape.list ≡ true → IsTrue (is_cell rules shapes (cell_of rules shape))
  is_cell_of shape among list = go shapes among
    where
      passes : has_cell (cell_of rules shape) shape ≡ true
      passes = rw list (eq-eqb (cell_of rules shape).0 (cell_of rules shape).0 refl)

      go : (xs : List Shape) → Contains xs shape → list_any (has_cell (cell_of rules shape)) xs ≡ true
      go [] m = absurd (omega (arith, m.1))
      go (x ∷ xs) m = at (contains-cons x shape xs m) (go xs)
        where
          or_true : (b : Bool) → (b || true) ≡ true
          or_true true = refl
          or_true false = refl

          at : (x ≡ shape) ⊎ Contains xs shape → (Contains xs shape → list_any (has_cell (cell_of rules shape)) xs ≡ true) → (has_cell (cell_of rules shape) x || list_any (has_cell (cell_of rules shape)) xs) ≡ true
          at (inl same) ih = ap (λ b. b || list_any (has_cell (cell_of rules shape)) xs) (ap (has_cell (cell_of rules shape)) same ∙ passes)
          at (inr n) ih = ap (λ b. has_cell (cell_of rules shape) x || b) (ih n) ∙ or_true (has_cell (cell_of rules shape) x)

  pub element_has_rule : (shape : Shape) → Contains shapes shape → shape.list ≡ true → (s : SymId) → Contains shape.right s
      → (k : ℕ) × (r : FlatRule) × (slice_get rules k ≡ Some r) × (r.left ≡ cell_of rules shape) × (r.right ≡ s ∷ cell_of rules shape ∷ [])
  element_has_rule shape among list s m = let l = list_shape shape among list in let cell = cell_of rules shape in
      side_there rules cell (s ∷ cell ∷ [])
      (subst (λ xs. Contains xs (s ∷ cell ∷ [])) (sym l.cells) (append_has (map (λ (q : SymId). q ∷ cell ∷ []) (different shape.right)) [] (s ∷ cell ∷ []) (inl (map_has (λ (q : SymId). q ∷ cell ∷ []) (different shape.right) s (different_has shape.right s m)))))

  pub end_has_rule : (shape : Shape) → Contains shapes shape → shape.list ≡ true → (k : ℕ) × (r : FlatRule) × (slice_get rules k ≡ Some r) × (r.left ≡ cell_of rules shape) × (r.right ≡ [])
  end_has_rule shape among list = let l = list_shape shape among list in let cell = cell_of rules shape in
      side_there rules cell [] (subst (λ xs. Contains xs []) (sym l.cells) (append_has (map (λ (q : SymId). q ∷ cell ∷ []) (different shape.right)) [] [] (inr refl)))

  -- the symbols of right sides are symbols
  pub right_inside : (k : ℕ) (r : FlatRule) → slice_get rules k ≡ Some r → (s : SymId) → Contains r.right s → s.0 < length symbols
  right_inside k r got s m = All-contains (λ (q : SymId). q.0 < length symbols) r.right s (All-contains (IsRule symbols) rules r well.each_rule (contains-slice_get rules k r got)).right_side m

  -- a plain shape has few symbols
  pub few_in_shape : (shape : Shape) → Contains shapes shape → shape.list ≡ false → length shape.right < 65536
  few_in_shape shape among plain = let rule = shape_rule shape among in
      let same : shape.right ≡ rule.0.right = All-contains (λ (s : Shape). s.list ≡ false → s.right ≡ right_side rules s) shapes shape well.each_plain among plain ∙ side rule.0 rule.1 in
      let few = All-contains (λ (r : FlatRule). length r.right < 2 ^ 16) rules rule.0 well.numbered_occurrences (contains-slice_get rules shape.rule.0 rule.0 rule.1) in omega (arith, ap length same)
    where
      side : (r : FlatRule) → slice_get rules shape.rule.0 ≡ Some r → right_side rules shape ≡ r.right
      side r e = rw (e, right_side) refl

  -- an element of a list is no terminal
  pub element_nonterminal : (shape : Shape) → Contains shapes shape → shape.list ≡ true → (s : SymId) → Contains shape.right s → IsTrue (is_nonterminal symbols s)
  element_nonterminal shape among list s m = first _ _ (All-contains (λ (q : SymId). IsTrue (is_nonterminal symbols q && not (is_same_symbol q (cell_of rules shape)))) shape.right s (list_shape shape among list).elements m)
    where
      first : (a b : Bool) → IsTrue (a && b) → IsTrue a
      first true b h = refl
      first false b h = cc
