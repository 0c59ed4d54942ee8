-- The shapes of the written rules, and the lists' chains of cells.
use Rattle.std.specs.Prelude.{Contains, IsTrue, All, slice_get, nat_eq, nat_lt, map, flat_map, filter, zip, not, ◌&&◌, ◌||◌, if◌then◌else◌}
use Rattle.std.specs.List.{AllZip, list_any, slice_index_or}
use Rattle.std.proofs.Common.{◌≡◌, ℕ, zero, suc, ◌+◌, ◌<◌, ◌≤◌, ◌⊎◌, inl, inr, Bool, true, false, cond, List, [], ◌∷◌, ◌++◌, length, Option, Some, None, refl, sym, ap, subst, ◌∙◌, arith, eqb-true, eq-eqb, true≢false, append-nil, length-append, zero-add, lt-ltb, ltb-true}
use Rattle.std.proofs.lemmas.Bool.{cases_lt}
use Rattle.std.proofs.lemmas.Option.{none-some, same_Some, slice_get_within}
use Rattle.std.proofs.lemmas.List.{length-map}
use Rattle.std.proofs.lemmas.List.Elements.{filter-append, Contains-append_cases}
use Rattle.std.proofs.lemmas.Slice.Zip.{AllZip-long}
use Rattle.lido_base.specs.Environment.{Environment}
use Rattle.lido_base.specs.declared.ids.SymId.{SymId}
use Rattle.lido_base.proofs.Lists.{contains-nil, contains-cons, contains-here, contains-later, contains-map, contains-flat, contains-place, place-contains, place-below}
use Rattle.flat_grammar.specs.declared.flat.FlatSymbol.{FlatSymbol}
use Rattle.flat_grammar.specs.declared.flat.FlatRule.{FlatRule}
use Rattle.flat_grammar.specs.declared.flat.Shape.{Shape}
use Rattle.flat_grammar.specs.WellFormed.{is_same_symbol, different as different_ids, is_nonterminal, positions_from, positions_of, right_sides, right_side, cell_of, IsListShape}
use Rattle.lido_syntax.specs.declared.spec.Spec.{Spec}
use Rattle.lido_syntax.specs.declared.spec.RuleItem.{RuleItem}
use Rattle.lido_syntax.specs.Production.{left_of, right_of}
use Rattle.lido_symbols.specs.Numbers.{enumerated, different}
use Rattle.rule_tables.specs.PlainRules.{PlainRule, number, cell, written_rule, cell_rules, IsShapeOf}
use Rattle.rule_tables.specs.Needs.{Tables, Needs, AreTables, rules}
use Rattle.rule_tables.specs.Slots.{Slot}
use Rattle.rule_tables.specs.Flat.{IsFlat, IsFlatRule}
use Rattle.rule_tables.proofs.CellLemmas.{different-within}
use Rattle.flat_laws.proofs.SymbolLemmas.{left-number, right-number, numbered-rule, rule-numbered, cell-past, one-cell}
use Rattle.flat_laws.proofs.RuleLemmas.{link_at, end_at, plain-at}
use Rattle.flat_laws.proofs.Lists.{found-any, zip-left, zip-right, all-places, mapped-place, mapped-back}

-- ---- lists

abbrev pub rest_of : {X : Type 0} → List X → List X
rest_of [] = []
rest_of (x ∷ xs) = xs

pub map-injective : {X Y : Type 0} (f : X → Y) → ((x y : X) → f x ≡ f y → x ≡ y) → (xs ys : List X) → map f xs ≡ map f ys → xs ≡ ys
map-injective f one [] [] e = refl
map-injective f one [] (y ∷ ys) e = cc
map-injective f one (x ∷ xs) [] e = cc
map-injective {X} {Y} f one (x ∷ xs) (y ∷ ys) e =
    let first : f x ≡ f y = same_Some (f x) (f y) (ap (λ l. slice_get l 0) e) in
    let rest : map f xs ≡ map f ys = ap (λ l. rest_of l) e in
    let a = one x y first in
    let b = map-injective f one xs ys rest in
    λ i. a i ∷ b i

pub one-id : (x y : SymId) → x.0 ≡ y.0 → x ≡ y
one-id x y e = ap (λ n. let id : SymId = record { 0 = n } in id) e

pub filter-none : {X : Type 0} (test : X → Bool) (xs : List X) → ((x : X) → Contains xs x → test x ≡ false) → filter test xs ≡ []
filter-none test [] h = refl
filter-none {X} test (x ∷ xs) h = ap (λ b. cond b (x ∷ filter test xs) (filter test xs)) (h x (contains-here x xs)) ∙ filter-none test xs (λ y m. h y (contains-later x y xs m))

pub filter-all : {X : Type 0} (test : X → Bool) (xs : List X) → ((x : X) → Contains xs x → test x ≡ true) → filter test xs ≡ xs
filter-all test [] h = refl
filter-all {X} test (x ∷ xs) h = ap (λ b. cond b (x ∷ filter test xs) (filter test xs)) (h x (contains-here x xs)) ∙ ap (λ l. x ∷ l) (filter-all test xs (λ y m. h y (contains-later x y xs m)))

flat-none : {X Y : Type 0} (f : X → List Y) (test : Y → Bool) (xs : List X) → ((x : X) → Contains xs x → (y : Y) → Contains (f x) y → test y ≡ false) → filter test (flat_map f xs) ≡ []
flat-none f test xs h = filter-none test (flat_map f xs) (λ y m. (let (x, mx, my) = contains-flat f xs y m in h x mx y my))

-- what passes comes of one element alone
pub flat-only : {X Y : Type 0} (f : X → List Y) (test : Y → Bool) (xs : List X) (k : ℕ) (x : X) → slice_get xs k ≡ Some x → ((y : Y) → Contains (f x) y → test y ≡ true)
    → ((j : ℕ) (z : X) → slice_get xs j ≡ Some z → (j ≡ k → ⊥) → (y : Y) → Contains (f z) y → test y ≡ false) → filter test (flat_map f xs) ≡ f x
flat-only f test [] k x e pass fail = absurd (none-some x e)
flat-only {X} {Y} f test (z ∷ xs) zero x e pass fail =
    let same : z ≡ x = same_Some z x e in
    filter-append test (f z) (flat_map f xs)
    ∙ ap (λ l. l ++ filter test (flat_map f xs)) (filter-all test (f z) (λ y m. pass y (subst (λ z. Contains (f z) y) same m)))
    ∙ ap (λ l. f z ++ l) (flat-none f test xs (λ w m y my. (let (j, at) = contains-place xs w m in fail (suc j) w at (λ n. absurd (omega (arith, n))) y my)))
    ∙ append-nil (f z) ∙ ap f same
flat-only {X} {Y} f test (z ∷ xs) (suc k) x e pass fail =
    filter-append test (f z) (flat_map f xs)
    ∙ ap (λ l. l ++ filter test (flat_map f xs)) (filter-none test (f z) (λ y m. fail 0 z refl (λ n. absurd (omega (arith, n))) y m))
    ∙ flat-only f test xs k x e pass (λ j w at other y my. fail (suc j) w at (λ n. other (omega (arith, n))) y my)

pub enumerated-get : {X : Type 0} (n k i : ℕ) (x : X) (xs : List X) → slice_get (enumerated n xs) k ≡ Some (i, x) → (i ≡ n + k) × (slice_get xs k ≡ Some x)
enumerated-get n k i x [] e = absurd (none-some _ e)
enumerated-get {X} n zero i x (y ∷ xs) e = let h = same_Some _ _ e in let first : n ≡ i = ap (λ (z : ℕ × X). z.0) h in (omega (arith, first), ap (λ (z : ℕ × X). Some z.1) h)
enumerated-get n (suc k) i x (y ∷ xs) e = let (a, b) = enumerated-get (suc n) k i x xs e in (omega (arith, a), b)

differs : (n k : ℕ) → (n ≡ k → ⊥) → nat_eq n k ≡ false
differs n k h = by (nat_eq n k) refl
  where
    by : (b : Bool) → nat_eq n k ≡ b → b ≡ false
    by false e = refl
    by true e = absurd (h (eqb-true n k e))

lt-true : (n k : ℕ) → n < k → nat_lt n k ≡ true
lt-true n k h = lt-ltb n k h

lt-false : (n k : ℕ) → k ≤ n → nat_lt n k ≡ false
lt-false n k h = by (nat_lt n k) refl
  where
    by : (b : Bool) → nat_lt n k ≡ b → b ≡ false
    by false e = refl
    by true e = absurd (let w = ltb-true n k e in omega (arith, w, h))

lt-later : (j n : ℕ) → nat_lt (suc j) (suc n) ≡ nat_lt j n
lt-later j n = by (cases_lt j n)
  where
    by : (j < n) ⊎ (n ≤ j) → nat_lt (suc j) (suc n) ≡ nat_lt j n
    by (inl h) = lt-true (suc j) (suc n) (omega (arith, h)) ∙ sym (lt-true j n h)
    by (inr h) = lt-false (suc j) (suc n) (omega (arith, h)) ∙ sym (lt-false j n h)

eq-later : (j k : ℕ) → nat_eq (suc j) (suc k) ≡ nat_eq j k
eq-later j k = by (nat_eq j k) refl
  where
    by : (b : Bool) → nat_eq j k ≡ b → nat_eq (suc j) (suc k) ≡ b
    by true e = eq-eqb (suc j) (suc k) (ap suc (eqb-true j k e))
    by false e = differs (suc j) (suc k) (λ same. absurd (true≢false (sym (eq-eqb j k (omega (arith, same))) ∙ e)))

positions-none : (test : FlatRule → Bool) (n : ℕ) (xs : List FlatRule) → ((j : ℕ) (x : FlatRule) → slice_get xs j ≡ Some x → test x ≡ false) → positions_from test n xs ≡ []
positions-none test n [] each = refl
positions-none test n (x ∷ xs) each = ap (λ b. if b then n ∷ positions_from test (suc n) xs else positions_from test (suc n) xs) (each 0 x refl) ∙ positions-none test (suc n) xs (λ j y e. each (suc j) y e)

-- the places of the first ones
pub positions-front : {Y : Type 0} (test : FlatRule → Bool) (n : ℕ) (ys : List Y) (xs : List FlatRule) → length ys ≤ length xs
    → ((j : ℕ) (x : FlatRule) → slice_get xs j ≡ Some x → test x ≡ nat_lt j (length ys)) → positions_from test n xs ≡ map (λ (z : ℕ × Y). z.0) (enumerated n ys)
positions-front {Y} test n [] [] le each = refl
positions-front {Y} test n [] (x ∷ xs) le each = positions-none test n (x ∷ xs) (λ j y e. each j y e ∙ lt-false j 0 (omega arith))
positions-front {Y} test n (y ∷ ys) [] le each = absurd (omega (arith, le))
positions-front {Y} test n (y ∷ ys) (x ∷ xs) le each =
    ap (λ b. if b then n ∷ positions_from test (suc n) xs else positions_from test (suc n) xs) (each 0 x refl ∙ lt-true 0 (length (y ∷ ys)) (omega arith))
    ∙ ap (λ l. n ∷ l) (positions-front test (suc n) ys xs (omega (arith, le)) (λ j z e. each (suc j) z e ∙ lt-later j (length ys)))

-- the place of the only one
pub positions-one : (test : FlatRule → Bool) (n k : ℕ) (xs : List FlatRule) → k < length xs → ((j : ℕ) (x : FlatRule) → slice_get xs j ≡ Some x → test x ≡ nat_eq j k) → positions_from test n xs ≡ (n + k) ∷ []
positions-one test n k [] h each = absurd (omega (arith, h))
positions-one test n zero (x ∷ xs) h each =
    let z : n ≡ n + 0 = omega arith in
    ap (λ b. if b then n ∷ positions_from test (suc n) xs else positions_from test (suc n) xs) (each 0 x refl)
    ∙ ap (λ l. n ∷ l) (positions-none test (suc n) xs (λ j y e. each (suc j) y e ∙ differs (suc j) 0 (λ w. absurd (omega (arith, w))))) ∙ ap (λ m. m ∷ []) z
positions-one test n (suc k) (x ∷ xs) h each =
    let z : suc n + k ≡ n + suc k = omega arith in
    ap (λ b. if b then n ∷ positions_from test (suc n) xs else positions_from test (suc n) xs) (each 0 x refl ∙ differs 0 (suc k) (λ w. absurd (omega (arith, w))))
    ∙ positions-one test (suc n) k xs (omega (arith, h)) (λ j y e. each (suc j) y e ∙ eq-later j k) ∙ ap (λ m. m ∷ []) z

pub zip-firsts : {A B C : Type 0} (Q : A → B → Type 0) (R : A × B → C → Type 0) (S : A → C → Type 0) → ((t : A × B) (z : C) → R t z → S t.0 z) → (xs : List A) (ys : List B) (zs : List C) → AllZip Q xs ys → AllZip R (zip xs ys) zs → AllZip S xs zs
zip-firsts Q R S of [] [] [] q h = tt
zip-firsts Q R S of [] [] (z ∷ zs) q h = absurd h
zip-firsts Q R S of [] (y ∷ ys) zs q h = absurd q
zip-firsts Q R S of (x ∷ xs) [] zs q h = absurd q
zip-firsts Q R S of (x ∷ xs) (y ∷ ys) [] q h = absurd h
zip-firsts Q R S of (x ∷ xs) (y ∷ ys) (z ∷ zs) q h = (of (x, y) z h.0, zip-firsts Q R S of xs ys zs q.1 h.1)

behind-place : {X : Type 0} (xs ys : List X) (k : ℕ) (x : X) → slice_get (xs ++ ys) k ≡ Some x → length xs ≤ k → Contains ys x
behind-place [] ys k x e l = place-contains ys k x e
behind-place (z ∷ xs) ys zero x e l = absurd (omega (arith, l))
behind-place (z ∷ xs) ys (suc k) x e l = behind-place xs ys k x e (omega (arith, l))

enumerated-long : {X : Type 0} (k : ℕ) (xs : List X) → length (enumerated k xs) ≡ length xs
enumerated-long k [] = refl
enumerated-long k (x ∷ xs) = ap suc (enumerated-long (suc k) xs)

zip-short : {A B : Type 0} (xs : List A) (ys : List B) → length (zip xs ys) ≤ length xs
zip-short [] ys = omega arith
zip-short (x ∷ xs) [] = omega arith
zip-short (x ∷ xs) (y ∷ ys) = let h = zip-short xs ys in omega (arith, h)

-- ---- different symbols

module _ (number_of : ℕ → ℕ) (symbols : List ℕ) where
  -- the number is that of the symbol
  abbrev IsNumbered : ℕ → Type 0
  IsNumbered x = slice_get symbols (number_of x) ≡ Some x

  same-number : (x y : ℕ) → IsNumbered x → IsNumbered y → nat_eq (number_of x) (number_of y) ≡ nat_eq x y
  same-number x y a b = by (nat_eq x y) refl (nat_eq (number_of x) (number_of y)) refl
    where
      by : (b : Bool) → nat_eq x y ≡ b → (c : Bool) → nat_eq (number_of x) (number_of y) ≡ c → c ≡ b
      by true e true f = refl
      by false e false f = refl
      by true e false f = absurd (true≢false (sym (eq-eqb (number_of x) (number_of y) (ap number_of (eqb-true x y e))) ∙ f))
      by false e true f = absurd (true≢false (sym (eq-eqb x y (same_Some x y (sym a ∙ ap (slice_get symbols) (eqb-true (number_of x) (number_of y) f) ∙ b))) ∙ e))

  filter-same : (x : ℕ) (id : SymId) → IsNumbered x → id.0 ≡ number_of x → (ids : List SymId) (xs : List ℕ) → ((y : ℕ) → Contains xs y → IsNumbered y) → map (λ (s : SymId). s.0) ids ≡ map number_of xs
      → map (λ (s : SymId). s.0) (filter (λ q. not (is_same_symbol id q)) ids) ≡ map number_of (filter (λ y. not (nat_eq x y)) xs)
  filter-same x id at e [] [] all same = refl
  filter-same x id at e [] (y ∷ ys) all same = cc
  filter-same x id at e (q ∷ ids) [] all same = cc
  filter-same x id at e (q ∷ ids) (y ∷ ys) all same =
      let first : q.0 ≡ number_of y = same_Some q.0 (number_of y) (ap (λ l. slice_get l 0) same) in
      let rest : map (λ (s : SymId). s.0) ids ≡ map number_of ys = ap (λ l. rest_of l) same in
      let test : not (is_same_symbol id q) ≡ not (nat_eq x y) = (λ i. not (nat_eq (e i) (first i))) ∙ ap not (same-number x y at (all y (contains-here y ys))) in
      by (not (is_same_symbol id q)) (not (nat_eq x y)) test first (filter-same x id at e ids ys (λ z m. all z (contains-later y z ys m)) rest)
    where
      by : (a b : Bool) → a ≡ b → q.0 ≡ number_of y → map (λ (s : SymId). s.0) (filter (λ q. not (is_same_symbol id q)) ids) ≡ map number_of (filter (λ y. not (nat_eq x y)) ys)
          → map (λ (s : SymId). s.0) (cond a (q ∷ filter (λ q. not (is_same_symbol id q)) ids) (filter (λ q. not (is_same_symbol id q)) ids))
          ≡ map number_of (cond b (y ∷ filter (λ y. not (nat_eq x y)) ys) (filter (λ y. not (nat_eq x y)) ys))
      by true true t first later = λ i. first i ∷ later i
      by false false t first later = later
      by true false t first later = absurd (true≢false t)
      by false true t first later = absurd (true≢false (sym t))

  pub different-same : (ids : List SymId) (xs : List ℕ) → ((y : ℕ) → Contains xs y → IsNumbered y) → map (λ (s : SymId). s.0) ids ≡ map number_of xs → map (λ (s : SymId). s.0) (different_ids ids) ≡ map number_of (different xs)
  different-same [] [] all same = refl
  different-same [] (x ∷ xs) all same = cc
  different-same (id ∷ ids) [] all same = cc
  different-same (id ∷ ids) (x ∷ xs) all same =
      let first : id.0 ≡ number_of x = same_Some id.0 (number_of x) (ap (λ l. slice_get l 0) same) in
      let rest : map (λ (s : SymId). s.0) ids ≡ map number_of xs = ap (λ l. rest_of l) same in
      let later = filter-same x id (all x (contains-here x xs)) first (different_ids ids) (different xs) (λ y m. all y (contains-later x y xs (different-within xs y m)))
      (different-same ids xs (λ y m. all y (contains-later x y xs m)) rest) in
      λ i. first i ∷ later i

-- ---- the flat rules of written rules and of cells

module _ (spec : Spec) (env : Environment) (T : Tables spec) (tables : AreTables spec T env) (needs : Needs spec T) (slots : ℕ → List Slot) (symbols : List FlatSymbol) (flat_rules : List FlatRule) (shapes : List Shape) (root : SymId)
    (is : IsFlat spec T needs slots env symbols flat_rules shapes root) where
  -- the rule of the flat grammar has the symbols of the plain one
  pub record HasSymbols (p : PlainRule) (flat : FlatRule) : Type 0 where
    pub left : flat.left.0 ≡ p.left
    pub right : map (λ (s : SymId). s.0) flat.right ≡ p.right

  pub all-symbols : AllZip HasSymbols (rules spec T) flat_rules
  all-symbols = zip-firsts _ (IsFlatRule spec T needs slots env) HasSymbols (λ t z h. record { left = h.left; right = h.right }) (rules spec T) T.forced flat_rules tables.forced is.each_rule

  abbrev numbered : List (ℕ × RuleItem)
  numbered = enumerated 0 spec.rules

  abbrev written : List PlainRule
  written = map (written_rule spec T.symbols) numbered

  abbrev of_cells : List PlainRule
  of_cells = flat_map (cell_rules spec T.symbols) numbered

  -- a rule of the flat grammar by its place: that of a written rule, or one of a cell
  pub record IsWrittenAt (j : ℕ) (flat : FlatRule) (r : RuleItem) : Type 0 where
    pub of : slice_get spec.rules j ≡ Some r
    pub below : j < length spec.rules
    pub has : HasSymbols (written_rule spec T.symbols (j, r)) flat

  pub record IsCellAt (j : ℕ) (flat : FlatRule) (m : ℕ) (r : RuleItem) : Type 0 where
    pub of : slice_get spec.rules m ≡ Some r
    pub past : length spec.rules ≤ j
    pub p : PlainRule
    pub among : Contains (cell_rules spec T.symbols (m, r)) p
    pub has : HasSymbols p flat

  pub data IsAt (j : ℕ) (flat : FlatRule) : Type 0 where
    of_written : (r : RuleItem) → IsWrittenAt j flat r → IsAt j flat
    of_cell : (m : ℕ) (r : RuleItem) → IsCellAt j flat m r → IsAt j flat

  long : length written ≡ length spec.rules
  long = length-map numbered (written_rule spec T.symbols) ∙ enumerated-long 0 spec.rules

  pub rule-at : (j : ℕ) (flat : FlatRule) → slice_get flat_rules j ≡ Some flat → IsAt j flat
  rule-at j flat e =
      let (p, at, has) = zip-left HasSymbols (rules spec T) flat_rules j flat all-symbols e in
      by p at has (cases_lt j (length spec.rules))
    where
      by : (p : PlainRule) → slice_get (rules spec T) j ≡ Some p → HasSymbols p flat → (j < length spec.rules) ⊎ (length spec.rules ≤ j) → IsAt j flat
      by p at has (inl lt) =
          let (r, of) = place-below spec.rules j lt in
          let same : written_rule spec T.symbols (j, r) ≡ p = same_Some (written_rule spec T.symbols (j, r)) p (sym (plain-at spec T.symbols j r of) ∙ at) in
          of_written r (record { of = of; below = lt; has = subst (λ (p : PlainRule). HasSymbols p flat) (sym same) has })
      by p at has (inr le) =
          let l = long in
          let m = behind-place written of_cells j p at (omega (arith, l, le)) in
          let (x, among, k) = contains-flat (cell_rules spec T.symbols) numbered p m in
          of_cell x.0 x.1 (record { of = numbered-rule spec T.symbols x among; past = le; p = p; among = k; has = has })

  pub written-at : (j : ℕ) (r : RuleItem) → slice_get spec.rules j ≡ Some r → (flat : FlatRule) × (slice_get flat_rules j ≡ Some flat) × HasSymbols (written_rule spec T.symbols (j, r)) flat
  written-at j r of = zip-right HasSymbols (rules spec T) flat_rules j (written_rule spec T.symbols (j, r)) all-symbols (plain-at spec T.symbols j r of)

  -- ---- shapes

  pub record IsShapeAt (k : ℕ) (shape : Shape) : Type 0 where
    pub r : RuleItem
    pub of : slice_get spec.rules k ≡ Some r
    pub rule : shape.rule.0 ≡ k
    pub list : shape.list ≡ r.list
    pub right : map (λ (s : SymId). s.0) shape.right ≡ map (number spec T.symbols) (right_of r)

  pub shape-at : (k : ℕ) (shape : Shape) → slice_get shapes k ≡ Some shape → IsShapeAt k shape
  shape-at k shape e =
      let (x, at, its) = zip-left (IsShapeOf spec T.symbols) numbered shapes k shape is.each_shape e in
      let (n, of) = enumerated-get 0 k x.0 x.1 spec.rules at in
      record { r = x.1; of = of; rule = its.rule ∙ n ∙ zero-add k; list = its.is_list; right = its.right }

  -- the rule of a shape
  pub record HasRule (k : ℕ) (shape : Shape) (r : RuleItem) : Type 0 where
    pub flat : FlatRule
    pub there : slice_get flat_rules k ≡ Some flat
    pub side : right_side flat_rules shape ≡ flat.right
    pub has : HasSymbols (written_rule spec T.symbols (k, r)) flat

  pub has-rule : (k : ℕ) (shape : Shape) (at : IsShapeAt k shape) → HasRule k shape at.r
  has-rule k shape at =
      let (flat, there, has) = written-at k at.r at.of in
      record {
        flat = flat;
        there = there;
        side = ap (λ (o : Option FlatRule). elim o as (λ _. List SymId) [ None ↦ [] | Some r ↦ r.right ]) (ap (slice_get flat_rules) at.rule ∙ there);
        has = has;
      }

  pub plain-shape : (k : ℕ) (shape : Shape) → slice_get shapes k ≡ Some shape → shape.list ≡ false → shape.right ≡ right_side flat_rules shape
  plain-shape k shape e l =
      let at = shape-at k shape e in
      let its = has-rule k shape at in
      map-injective (λ (s : SymId). s.0) one-id shape.right (right_side flat_rules shape)
      (at.right ∙ sym (ap (λ b. if b then cell spec T.symbols k ∷ [] else map (number spec T.symbols) (right_of at.r)) (sym at.list ∙ l)) ∙ sym its.has.right ∙ ap (map (λ (s : SymId). s.0)) (sym its.side))

  -- a list's rule leads to its cell
  pub leads-to : (k : ℕ) (shape : Shape) → slice_get shapes k ≡ Some shape → shape.list ≡ true → right_side flat_rules shape ≡ (record { 0 = cell spec T.symbols k }) ∷ []
  leads-to k shape e l =
      let at = shape-at k shape e in
      let its = has-rule k shape at in
      map-injective (λ (s : SymId). s.0) one-id (right_side flat_rules shape) ((record { 0 = cell spec T.symbols k }) ∷ [])
      (ap (map (λ (s : SymId). s.0)) its.side ∙ its.has.right ∙ ap (λ b. if b then cell spec T.symbols k ∷ [] else map (number spec T.symbols) (right_of at.r)) (sym at.list ∙ l))

  pub cell-is : (k : ℕ) (shape : Shape) → slice_get shapes k ≡ Some shape → shape.list ≡ true → cell_of flat_rules shape ≡ record { 0 = cell spec T.symbols k }
  cell-is k shape e l = ap (λ (l : List SymId). slice_index_or l 0 (record { 0 = 0 })) (leads-to k shape e l)

  -- ---- numbers of symbols and of cells

  left-below : (r : RuleItem) → Contains spec.rules r → number spec T.symbols (left_of r) < length T.symbols
  left-below r among = slice_get_within T.symbols (number spec T.symbols (left_of r)) (left_of r) (left-number spec env T tables r among)

  right-below : (r : RuleItem) → Contains spec.rules r → (s : ℕ) → Contains (right_of r) s → number spec T.symbols s < length T.symbols
  right-below r among s m = slice_get_within T.symbols (number spec T.symbols s) s (right-number spec env T tables r among s m)

  no-cell : (n k : ℕ) → n < length T.symbols → nat_eq n (cell spec T.symbols k) ≡ false
  no-cell n k h = differs n (cell spec T.symbols k) (λ e. (let c = cell-past spec T.symbols k in omega (arith, h, c, e)))

  cell-no : (n k : ℕ) → n < length T.symbols → nat_eq (cell spec T.symbols k) n ≡ false
  cell-no n k h = differs (cell spec T.symbols k) n (λ e. (let c = cell-past spec T.symbols k in omega (arith, h, c, e)))

  of-cell-left : (m : ℕ) (q : RuleItem) (p : PlainRule) → Contains (cell_rules spec T.symbols (m, q)) p → (q.list ≡ true) × (p.left ≡ cell spec T.symbols m)
  of-cell-left m q p c = by q.list refl c
    where
      by : (b : Bool) → q.list ≡ b → Contains (if b then map (link_at spec T.symbols m) (different (right_of q)) ++ end_at spec T.symbols m ∷ [] else []) p → (q.list ≡ true) × (p.left ≡ cell spec T.symbols m)
      by false e c = absurd (contains-nil p c)
      by true e c = (
        e,
        elim (Contains-append_cases (map (link_at spec T.symbols m) (different (right_of q))) (end_at spec T.symbols m ∷ []) p c) [
          | inl h ↦ let (s, ms, same) = contains-map (link_at spec T.symbols m) (different (right_of q)) p h in ap (λ (p : PlainRule). p.left) (sym same)
          | inr h ↦ elim (contains-cons (end_at spec T.symbols m) p [] h) [ inl same ↦ ap (λ (p : PlainRule). p.left) (sym same) | inr z ↦ absurd (contains-nil p z) ]
        ],
      )

  -- ---- a list

  module _ (k : ℕ) (shape : Shape) (there : slice_get shapes k ≡ Some shape) (l : shape.list ≡ true) where
    abbrev pub at : IsShapeAt k shape
    at = shape-at k shape there

    is_list : at.r.list ≡ true
    is_list = sym at.list ∙ l

    among : Contains spec.rules at.r
    among = place-contains spec.rules k at.r at.of

    abbrev its_cell : SymId
    its_cell = record { 0 = cell spec T.symbols k }

    -- the cells of two lists differ
    cell-cell : (m : ℕ) (q : RuleItem) → slice_get spec.rules m ≡ Some q → q.list ≡ true → nat_eq (cell spec T.symbols m) (cell spec T.symbols k) ≡ nat_eq m k
    cell-cell m q of lq = by (nat_eq m k) refl
      where
        by : (b : Bool) → nat_eq m k ≡ b → nat_eq (cell spec T.symbols m) (cell spec T.symbols k) ≡ b
        by true e = eq-eqb (cell spec T.symbols m) (cell spec T.symbols k) (ap (cell spec T.symbols) (eqb-true m k e))
        by false e = differs (cell spec T.symbols m) (cell spec T.symbols k) (λ same. absurd (true≢false (sym (eq-eqb m k (one-cell spec T.symbols m k q at.r of lq at.of is_list same)) ∙ e)))

    -- ---- its elements

    pub elements : ((s : ℕ) → Contains (right_of at.r) s → IsTrue (is_nonterminal symbols (record { 0 = number spec T.symbols s }))) → All (λ (s : SymId). IsTrue (is_nonterminal symbols s && not (is_same_symbol s its_cell))) shape.right
    elements each = all-places (λ (s : SymId). IsTrue (is_nonterminal symbols s && not (is_same_symbol s its_cell))) shape.right (λ j id e. element j id e)
      where
        both-true : (a b : Bool) → a ≡ true → b ≡ true → (a && b) ≡ true
        both-true true b e f = f
        both-true false b e f = absurd (true≢false (sym e))

        element : (j : ℕ) (id : SymId) → slice_get shape.right j ≡ Some id → IsTrue (is_nonterminal symbols id && not (is_same_symbol id its_cell))
        element j id e =
            let (s, at_s, n) = mapped-back (number spec T.symbols) (right_of at.r) j id.0 (ap (λ l. slice_get l j) (sym at.right) ∙ mapped-place (λ (s : SymId). s.0) shape.right j id e) in
            let m = place-contains (right_of at.r) j s at_s in
            both-true (is_nonterminal symbols id) (not (is_same_symbol id its_cell)) (subst (λ (id : SymId). IsTrue (is_nonterminal symbols id)) (one-id _ id n) (each s m))
            (ap not (no-cell id.0 k (subst (λ z. z < length T.symbols) n (right-below at.r among s m))))

    -- ---- the rules of its cell

    abbrev is_its : PlainRule → Bool
    is_its p = nat_eq p.left (cell spec T.symbols k)

    its-rules : filter is_its (rules spec T) ≡ cell_rules spec T.symbols (k, at.r)
    its-rules =
        filter-append is_its written of_cells
        ∙ ap (λ l. l ++ filter is_its of_cells) (filter-none is_its written (λ p m. not-written p m))
        ∙ flat-only (cell_rules spec T.symbols) is_its numbered k (k, at.r) (rule-numbered spec T.symbols k at.r at.of) (λ p m. own p m) (λ j x e other p m. others j x e other p m)
      where
        not-written : (p : PlainRule) → Contains written p → is_its p ≡ false
        not-written p m =
            let (x, mx, same) = contains-map (written_rule spec T.symbols) numbered p m in
            ap is_its (sym same) ∙ no-cell (number spec T.symbols (left_of x.1)) k (left-below x.1 (place-contains spec.rules x.0 x.1 (numbered-rule spec T.symbols x mx)))

        own : (p : PlainRule) → Contains (cell_rules spec T.symbols (k, at.r)) p → is_its p ≡ true
        own p m = let (lq, e) = of-cell-left k at.r p m in eq-eqb p.left (cell spec T.symbols k) e

        others : (j : ℕ) (x : ℕ × RuleItem) → slice_get numbered j ≡ Some x → (j ≡ k → ⊥) → (p : PlainRule) → Contains (cell_rules spec T.symbols x) p → is_its p ≡ false
        others j x e other p m =
            let (n, of) = enumerated-get 0 j x.0 x.1 spec.rules e in
            let (lq, left) = of-cell-left x.0 x.1 p m in
            let place : x.0 ≡ j = omega (arith, n) in
            ap (λ n. nat_eq n (cell spec T.symbols k)) left ∙ cell-cell x.0 x.1 (numbered-rule spec T.symbols x (place-contains numbered j x e)) lq ∙ differs x.0 k (λ same. other (sym place ∙ same))

    same-sides : (ps : List PlainRule) (rs : List FlatRule) → AllZip HasSymbols ps rs → map (map (λ (s : SymId). s.0)) (map (λ (r : FlatRule). r.right) (filter (λ (r : FlatRule). is_same_symbol r.left its_cell) rs)) ≡ map (λ (p : PlainRule). p.right) (filter is_its ps)
    same-sides [] [] h = refl
    same-sides [] (r ∷ rs) h = absurd h
    same-sides (p ∷ ps) [] h = absurd h
    same-sides (p ∷ ps) (r ∷ rs) h = by (is_same_symbol r.left its_cell) (is_its p) (ap (λ n. nat_eq n (cell spec T.symbols k)) h.0.left) (same-sides ps rs h.1)
      where
        by : (a b : Bool) → a ≡ b → map (map (λ (s : SymId). s.0)) (map (λ (r : FlatRule). r.right) (filter (λ (r : FlatRule). is_same_symbol r.left its_cell) rs)) ≡ map (λ (p : PlainRule). p.right) (filter is_its ps)
            → map (map (λ (s : SymId). s.0)) (map (λ (r : FlatRule). r.right) (cond a (r ∷ filter (λ (r : FlatRule). is_same_symbol r.left its_cell) rs) (filter (λ (r : FlatRule). is_same_symbol r.left its_cell) rs)))
            ≡ map (λ (p : PlainRule). p.right) (cond b (p ∷ filter is_its ps) (filter is_its ps))
        by true true t later = let right = h.0.right in λ i. right i ∷ later i
        by false false t later = later
        by true false t later = absurd (true≢false t)
        by false true t later = absurd (true≢false (sym t))

    -- the right sides of its links, and of its end
    link-sides : (ds : List SymId) (xs : List ℕ) → map (λ (s : SymId). s.0) ds ≡ map (number spec T.symbols) xs
        → map (map (λ (s : SymId). s.0)) (map (λ (s : SymId). s ∷ its_cell ∷ []) ds ++ [] ∷ []) ≡ map (λ (p : PlainRule). p.right) (map (link_at spec T.symbols k) xs ++ end_at spec T.symbols k ∷ [])
    link-sides [] [] e = refl
    link-sides [] (x ∷ xs) e = cc
    link-sides (d ∷ ds) [] e = cc
    link-sides (d ∷ ds) (x ∷ xs) e =
        let first : d.0 ≡ number spec T.symbols x = same_Some d.0 (number spec T.symbols x) (ap (λ l. slice_get l 0) e) in
        let rest : map (λ (s : SymId). s.0) ds ≡ map (number spec T.symbols) xs = ap (λ l. rest_of l) e in
        let later = link-sides ds xs rest in
        λ i. (first i ∷ cell spec T.symbols k ∷ []) ∷ later i

    pub cells : right_sides flat_rules its_cell ≡ map (λ (s : SymId). s ∷ its_cell ∷ []) (different_ids shape.right) ++ [] ∷ []
    cells = map-injective (map (λ (s : SymId). s.0)) (λ xs ys. map-injective (λ (s : SymId). s.0) one-id xs ys) (right_sides flat_rules its_cell) (map (λ (s : SymId). s ∷ its_cell ∷ []) (different_ids shape.right) ++ [] ∷ [])
        (same-sides (rules spec T) flat_rules all-symbols
        ∙ ap (map (λ (p : PlainRule). p.right)) (its-rules ∙ ap (λ b. if b then map (link_at spec T.symbols k) (different (right_of at.r)) ++ end_at spec T.symbols k ∷ [] else []) is_list)
        ∙ sym (link-sides (different_ids shape.right) (different (right_of at.r))
        (different-same (number spec T.symbols) T.symbols shape.right (right_of at.r) (λ s m. right-number spec env T tables at.r among s m) at.right)))

    -- ---- its cell is used once

    abbrev leads : FlatRule → Bool
    leads r = list_any (is_same_symbol its_cell) r.right && not (is_same_symbol r.left its_cell)

    any-number : (xs : List SymId) → list_any (is_same_symbol its_cell) xs ≡ list_any (nat_eq (cell spec T.symbols k)) (map (λ (s : SymId). s.0) xs)
    any-number [] = refl
    any-number (x ∷ xs) = ap (λ b. nat_eq (cell spec T.symbols k) x.0 || b) (any-number xs)

    leads-by : (p : PlainRule) (r : FlatRule) → HasSymbols p r → leads r ≡ (list_any (nat_eq (cell spec T.symbols k)) p.right && not (is_its p))
    leads-by p r h =
        let a = any-number r.right ∙ ap (list_any (nat_eq (cell spec T.symbols k))) h.right in
        let b = ap (λ n. nat_eq n (cell spec T.symbols k)) h.left in
        λ i. a i && not (b i)

    none-any : (xs : List ℕ) → ((x : ℕ) → Contains xs x → x < length T.symbols) → list_any (nat_eq (cell spec T.symbols k)) xs ≡ false
    none-any [] all = refl
    none-any (x ∷ xs) all = (let a = cell-no x k (all x (contains-here x xs)) in let b = none-any xs (λ y m. all y (contains-later x y xs m)) in λ i. a i || b i)

    and-false : (a b : Bool) → a ≡ false → (a && b) ≡ false
    and-false false b e = refl
    and-false true b e = absurd (true≢false e)

    and-not : (a b : Bool) → b ≡ true → (a && not b) ≡ false
    and-not true true e = refl
    and-not false b e = refl
    and-not true false e = absurd (true≢false (sym e))

    sym-eq : (a b : ℕ) → nat_eq a b ≡ nat_eq b a
    sym-eq a b = by (nat_eq a b) refl (nat_eq b a) refl
      where
        by : (x : Bool) → nat_eq a b ≡ x → (y : Bool) → nat_eq b a ≡ y → x ≡ y
        by true e true f = refl
        by false e false f = refl
        by true e false f = absurd (true≢false (sym (eq-eqb b a (sym (eqb-true a b e))) ∙ f))
        by false e true f = absurd (true≢false (sym (eq-eqb a b (sym (eqb-true b a f))) ∙ e))

    written-leads : (j : ℕ) (q : RuleItem) → slice_get spec.rules j ≡ Some q → (b : Bool) → q.list ≡ b
        → (list_any (nat_eq (cell spec T.symbols k)) (if b then cell spec T.symbols j ∷ [] else map (number spec T.symbols) (right_of q)) && not (nat_eq (number spec T.symbols (left_of q)) (cell spec T.symbols k))) ≡ nat_eq j k
    written-leads j q of true lq =
        let a = sym-eq (cell spec T.symbols k) (cell spec T.symbols j) ∙ cell-cell j q of lq in
        let b = no-cell (number spec T.symbols (left_of q)) k (left-below q (place-contains spec.rules j q of)) in
        (λ i. (a i || false) && not (b i)) ∙ plain (nat_eq j k)
      where
        plain : (b : Bool) → ((b || false) && true) ≡ b
        plain true = refl
        plain false = refl
    written-leads j q of false lq =
        and-false _ (not (nat_eq (number spec T.symbols (left_of q)) (cell spec T.symbols k))) (none-any (map (number spec T.symbols) (right_of q)) (λ x m.
        (let (s, ms, e) = contains-map (number spec T.symbols) (right_of q) x m in subst (λ z. z < length T.symbols) e (right-below q (place-contains spec.rules j q of) s ms))))
        ∙ sym (differs j k (λ e. absurd (true≢false (sym is_list ∙ ap (λ (r : RuleItem). r.list) (same_Some at.r q (sym at.of ∙ ap (slice_get spec.rules) (sym e) ∙ of)) ∙ lq))))

    cell-leads : (m : ℕ) (q : RuleItem) (p : PlainRule) → slice_get spec.rules m ≡ Some q → Contains (cell_rules spec T.symbols (m, q)) p → (list_any (nat_eq (cell spec T.symbols k)) p.right && not (is_its p)) ≡ false
    cell-leads m q p of c = by (nat_eq m k) refl
      where
        left : (q.list ≡ true) × (p.left ≡ cell spec T.symbols m)
        left = of-cell-left m q p c

        right : (m ≡ k → ⊥) → list_any (nat_eq (cell spec T.symbols k)) p.right ≡ false
        right other = in-list q.list refl c
          where
            other_cell : nat_eq (cell spec T.symbols k) (cell spec T.symbols m) ≡ false
            other_cell = sym-eq (cell spec T.symbols k) (cell spec T.symbols m) ∙ cell-cell m q of left.0 ∙ differs m k other

            linked : (s : ℕ) → Contains (different (right_of q)) s → link_at spec T.symbols m s ≡ p → list_any (nat_eq (cell spec T.symbols k)) p.right ≡ false
            linked s ms same =
                let a = cell-no (number spec T.symbols s) k (right-below q (place-contains spec.rules m q of) s (different-within (right_of q) s ms)) in
                ap (λ (p : PlainRule). list_any (nat_eq (cell spec T.symbols k)) p.right) (sym same) ∙ (λ i. a i || (other_cell i || false))

            in-list : (b : Bool) → q.list ≡ b → Contains (if b then map (link_at spec T.symbols m) (different (right_of q)) ++ end_at spec T.symbols m ∷ [] else []) p → list_any (nat_eq (cell spec T.symbols k)) p.right ≡ false
            in-list false e c = absurd (contains-nil p c)
            in-list true e c = elim (Contains-append_cases (map (link_at spec T.symbols m) (different (right_of q))) (end_at spec T.symbols m ∷ []) p c) [
              | inl h ↦ let (s, ms, same) = contains-map (link_at spec T.symbols m) (different (right_of q)) p h in linked s ms same
              | inr h ↦ elim (contains-cons (end_at spec T.symbols m) p [] h) [ inl same ↦ ap (λ (p : PlainRule). list_any (nat_eq (cell spec T.symbols k)) p.right) (sym same) | inr z ↦ absurd (contains-nil p z) ]
            ]

        by : (b : Bool) → nat_eq m k ≡ b → (list_any (nat_eq (cell spec T.symbols k)) p.right && not (is_its p)) ≡ false
        by true e = and-not (list_any (nat_eq (cell spec T.symbols k)) p.right) (is_its p) (ap (λ n. nat_eq n (cell spec T.symbols k)) left.1 ∙ cell-cell m q of left.0 ∙ e)
        by false e = and-false (list_any (nat_eq (cell spec T.symbols k)) p.right) (not (is_its p)) (right (λ same. absurd (true≢false (sym (eq-eqb m k same) ∙ e))))

    leads-at : (j : ℕ) (r : FlatRule) → slice_get flat_rules j ≡ Some r → leads r ≡ nat_eq j k
    leads-at j r e = by (rule-at j r e)
      where
        below : k < length spec.rules
        below = slice_get_within spec.rules k at.r at.of

        by : IsAt j r → leads r ≡ nat_eq j k
        by (of_written q h) = leads-by (written_rule spec T.symbols (j, q)) r h.has ∙ written-leads j q h.of q.list refl
        by (of_cell m q h) = leads-by h.p r h.has ∙ cell-leads m q h.p h.of h.among ∙ sym (differs j k (λ same. (let w = below in let past = h.past in omega (arith, w, past, same))))

    pub used-once : positions_of leads flat_rules ≡ shape.rule.0 ∷ []
    used-once =
        let (flat, here, has) = written-at k at.r at.of in
        positions-one leads 0 k flat_rules (slice_get_within flat_rules k flat here) leads-at ∙ ap (λ n. n ∷ []) (zero-add k ∙ sym at.rule)

    pub list-shape : ((s : ℕ) → Contains (right_of at.r) s → IsTrue (is_nonterminal symbols (record { 0 = number spec T.symbols s }))) → IsListShape symbols flat_rules shape (cell_of flat_rules shape)
    list-shape each = subst (IsListShape symbols flat_rules shape) (sym (cell-is k shape there l)) (record {
      leads = leads-to k shape there l;
      elements = elements each;
      cells = cells;
      used_once = used-once;
    })

  -- ---- which rules have a shape

  abbrev is_cell_rule : FlatRule → Bool
  is_cell_rule r = list_any (λ (shape : Shape). shape.list && is_same_symbol r.left (cell_of flat_rules shape)) shapes

  no-shape : (r : FlatRule) → r.left.0 < length T.symbols → (shape : Shape) → Contains shapes shape → (shape.list && is_same_symbol r.left (cell_of flat_rules shape)) ≡ false
  no-shape r h shape m = let (k, e) = contains-place shapes shape m in by k e shape.list refl
    where
      by : (k : ℕ) → slice_get shapes k ≡ Some shape → (b : Bool) → shape.list ≡ b → (b && is_same_symbol r.left (cell_of flat_rules shape)) ≡ false
      by k e false l = refl
      by k e true l = ap (λ (s : SymId). is_same_symbol r.left s) (cell-is k shape e l) ∙ no-cell r.left.0 k h

  none-any-shape : (test : Shape → Bool) (xs : List Shape) → ((x : Shape) → Contains xs x → test x ≡ false) → list_any test xs ≡ false
  none-any-shape test [] h = refl
  none-any-shape test (x ∷ xs) h = (let a = h x (contains-here x xs) in let b = none-any-shape test xs (λ y m. h y (contains-later x y xs m)) in λ i. a i || b i)

  has-shape : (m : ℕ) (q : RuleItem) → slice_get spec.rules m ≡ Some q → q.list ≡ true → (r : FlatRule) → r.left.0 ≡ cell spec T.symbols m → is_cell_rule r ≡ true
  has-shape m q of lq r left =
      let (shape, e, its) = zip-right (IsShapeOf spec T.symbols) numbered shapes m (m, q) is.each_shape (rule-numbered spec T.symbols m q of) in
      let l : shape.list ≡ true = its.is_list ∙ lq in
      let same : is_same_symbol r.left (cell_of flat_rules shape) ≡ true = ap (λ (s : SymId). is_same_symbol r.left s) (cell-is m shape e l) ∙ eq-eqb r.left.0 (cell spec T.symbols m) left in
      found-any (λ (shape : Shape). shape.list && is_same_symbol r.left (cell_of flat_rules shape)) shapes shape (place-contains shapes m shape e) (λ i. if-both shape.list (is_same_symbol r.left (cell_of flat_rules shape)) l same i)
    where
      if-both : (a b : Bool) → a ≡ true → b ≡ true → (a && b) ≡ true
      if-both true b e f = f
      if-both false b e f = absurd (true≢false (sym e))

  shaped-at : (j : ℕ) (r : FlatRule) → slice_get flat_rules j ≡ Some r → not (is_cell_rule r) ≡ nat_lt j (length spec.rules)
  shaped-at j r e = by (rule-at j r e)
    where
      by : IsAt j r → not (is_cell_rule r) ≡ nat_lt j (length spec.rules)
      by (of_written q h) =
          ap not (none-any-shape (λ (shape : Shape). shape.list && is_same_symbol r.left (cell_of flat_rules shape)) shapes (no-shape r (subst (λ n. n < length T.symbols) (sym h.has.left) (left-below q (place-contains spec.rules j q h.of)))))
          ∙ sym (lt-true j (length spec.rules) h.below)
      by (of_cell m q h) =
          ap not (has-shape m q h.of (of-cell-left m q h.p h.among).0 r (h.has.left ∙ (of-cell-left m q h.p h.among).1)) ∙ sym (lt-false j (length spec.rules) h.past)

  rule-numbers : (xs : List (ℕ × RuleItem)) (ys : List Shape) → AllZip (IsShapeOf spec T.symbols) xs ys → map (λ (shape : Shape). shape.rule.0) ys ≡ map (λ (x : ℕ × RuleItem). x.0) xs
  rule-numbers [] [] h = refl
  rule-numbers [] (y ∷ ys) h = absurd h
  rule-numbers (x ∷ xs) [] h = absurd h
  rule-numbers (x ∷ xs) (y ∷ ys) h = let first = h.0.rule in let later = rule-numbers xs ys h.1 in λ i. first i ∷ later i

  pub each-shape : map (λ (shape : Shape). shape.rule.0) shapes ≡ positions_of (λ (r : FlatRule). not (is_cell_rule r)) flat_rules
  each-shape = rule-numbers numbered shapes is.each_shape ∙ sym (positions-front (λ (r : FlatRule). not (is_cell_rule r)) 0 spec.rules flat_rules enough shaped-at)
    where
      enough : length spec.rules ≤ length flat_rules
      enough =
          let a = AllZip-long HasSymbols (rules spec T) flat_rules all-symbols in
          let b = length-append written of_cells in
          let c = long in
          omega (arith, a, b, c)
