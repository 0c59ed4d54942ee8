-- The symbols of plain rules have rows.
use Rattle.std.specs.Prelude.{nat_eq, not, cond, filter, filter_map, flat_map, Contains}
use Rattle.std.proofs.Common.{◌≡◌, ℕ, suc, ◌<◌, ◌⊎◌, inl, inr, Bool, true, false, if◌then◌else◌, List, [], ◌∷◌, ◌++◌, length, map, refl, sym, ap, subst, ◌∙◌, arith, eqb-true}
use Rattle.std.proofs.lemmas.Option.{slice_get_within}
use Rattle.std.proofs.lemmas.List.Elements.{Contains-append_left, Contains-append_cases}
use Rattle.lido_base.specs.Environment.{Environment}
use Rattle.lido_base.proofs.TreeLemmas.{contains-test}
use Rattle.lido_base.proofs.Lists.{contains-nil, contains-cons, contains-here, contains-later, contains-map, map-contains, contains-flat, flat-contains}
use Rattle.lido_syntax.specs.declared.spec.RuleItem.{RuleItem}
use Rattle.lido_syntax.specs.declared.spec.Typed1.{Typed1}
use Rattle.lido_syntax.specs.declared.spec.Element.{Element}
use Rattle.lido_syntax.specs.declared.spec.Element.TheVariants.{Symbol, Literal}
use Rattle.lido_syntax.specs.Production.{name_of, left_of, right_of, symbol_of, symbols_of}
use Rattle.lido_symbols.specs.Numbers.{place_in, enumerated, different}
use Rattle.lido_symbols.specs.Uses.{element_name, production_names, symbols_of_rule, symbols_of_item, symbols_of_computation, is_coordinate_of_rule, with_place}
use Rattle.rule_tables.specs.declared.table.Tables.{Tables}
use Rattle.rule_tables.specs.PlainRules.{PlainRule, Link, End, lists, number, cell, written_rule, cell_rules, plain_rules}
use Rattle.rule_tables.specs.TablesOf.{named_symbols, AreTablesOf}
use Rattle.rule_tables.proofs.SlotLemmas.{number-at_place}

pub filter-part : {X : Type 0} (p : X → Bool) (xs : List X) (x : X) → Contains (filter p xs) x → Contains xs x
filter-part p [] x m = m
filter-part {X} p (y ∷ xs) x m = by (p y) m (filter-part p xs x)
  where
    by : (b : Bool) → Contains (cond b (y ∷ filter p xs) (filter p xs)) x → (Contains (filter p xs) x → Contains xs x) → Contains (y ∷ xs) x
    by true m later = elim (contains-cons y x (filter p xs) m) [ inl h ↦ subst (λ z. Contains (y ∷ xs) z) h (contains-here y xs) | inr k ↦ contains-later y x xs (later k) ]
    by false m later = contains-later y x xs (later m)

pub filter-kept : {X : Type 0} (p : X → Bool) (xs : List X) (x : X) → Contains xs x → p x ≡ true → Contains (filter p xs) x
filter-kept p [] x m e = m
filter-kept {X} p (y ∷ xs) x m e = by (p y) refl (contains-cons y x xs m) (λ k. filter-kept p xs x k e)
  where
    by : (b : Bool) → p y ≡ b → (y ≡ x) ⊎ Contains xs x → (Contains xs x → Contains (filter p xs) x) → Contains (cond b (y ∷ filter p xs) (filter p xs)) x
    by true f (inl h) later = subst (λ z. Contains (y ∷ filter p xs) z) h (contains-here y (filter p xs))
    by true f (inr k) later = contains-later y x (filter p xs) (later k)
    by false f (inl h) later = let wrong : false ≡ true = sym f ∙ ap p h ∙ e in cc
    by false f (inr k) later = later k

different-part : (xs : List ℕ) (x : ℕ) → Contains (different xs) x → Contains xs x
different-part [] x m = m
different-part (y ∷ xs) x m = elim (contains-cons y x (filter (λ z. not (nat_eq y z)) (different xs)) m) [
  | inl h ↦ subst (λ z. Contains (y ∷ xs) z) h (contains-here y xs)
  | inr k ↦ contains-later y x xs (different-part xs x (filter-part (λ z. not (nat_eq y z)) (different xs) x k))
]

enumerated-part : {X : Type 0} (k : ℕ) (xs : List X) (x : ℕ × X) → Contains (enumerated k xs) x → Contains xs x.1
enumerated-part k [] x m = absurd (contains-nil x m)
enumerated-part k (y ∷ xs) x m = elim (contains-cons (k, y) x (enumerated (suc k) xs) m) [
  | inl h ↦ subst (λ z. Contains (y ∷ xs) z.1) h (contains-here y xs)
  | inr n ↦ contains-later y x.1 xs (enumerated-part (suc k) xs x n)
]

names-right : (es : List Element) → map name_of (filter_map element_name es) ≡ filter_map symbol_of es
names-right [] = refl
names-right (Symbol n ∷ es) = ap (λ l. name_of n ∷ l) (names-right es)
names-right (Literal s ∷ es) = names-right es

module _ (t : Tables) (env : Environment) (is : AreTablesOf env t) where
  abbrev symbols : List ℕ
  symbols = named_symbols t

  -- a symbol of a production is among those that are numbered
  pub named : (r : RuleItem) → Contains t.spec.rules r → (x : ℕ) → Contains (symbols_of r) x → Contains symbols x
  named r among x m =
      let n = contains-map name_of (production_names r) x (subst (λ l. Contains (left_of r ∷ l) x) (sym (names-right r.right)) m) in
      let body = flat_map (symbols_of_computation (is_coordinate_of_rule env r)) r.body in
      let items = flat_map (symbols_of_item t.spec env) t.spec.symbols in
      let terms = map (λ (y : Typed1). y.name) t.spec.terms in
      let in_rule = Contains-append_left (production_names r) body n.0 n.1 in
      let rules = flat_map (symbols_of_rule t.spec env) t.spec.rules in
      let in_rules = Contains-append_left (rules ++ items) terms n.0 (Contains-append_left rules items n.0 (flat-contains (symbols_of_rule t.spec env) t.spec.rules r n.0 among in_rule)) in
      let naming = map-contains with_place (rules ++ items ++ terms) n.0 in_rules in
      let key = is.numbers.all n.0.at (name_of n.0) naming in
      subst (λ z. Contains symbols z) (sym (eqb-true (name_of n.0) key.0 key.2) ∙ n.2) key.1

  number-below : (x : ℕ) → Contains symbols x → number t.spec symbols x < length t.symbols
  number-below x m =
      let l = slice_get_within symbols (number t.spec symbols x) x (number-at_place x symbols m) in
      let e = is.count in
      omega (arith, l, e)

  cell-below : (i : ℕ) → Contains (lists t.spec symbols) i → cell t.spec symbols i < length t.symbols
  cell-below i m =
      let l = slice_get_within (lists t.spec symbols) (place_in (nat_eq i) (lists t.spec symbols)) i (number-at_place i (lists t.spec symbols) m) in
      let e = is.count in
      omega (arith, l, e)

  -- the symbols of a plain rule have rows
  abbrev IsInside : PlainRule → Type 0
  IsInside p = (y : ℕ) → Contains (p.left ∷ p.right) y → y < length t.symbols

  numbers-below : (r : RuleItem) → Contains t.spec.rules r → (xs : List ℕ) → ((x : ℕ) → Contains xs x → Contains (symbols_of r) x) → (y : ℕ) → Contains (map (number t.spec symbols) xs) y → y < length t.symbols
  numbers-below r among xs part y m = let x = contains-map (number t.spec symbols) xs y m in subst (λ z. z < length t.symbols) x.2 (number-below x.0 (named r among x.0 (part x.0 x.1)))

  left-below : (r : RuleItem) → Contains t.spec.rules r → number t.spec symbols (left_of r) < length t.symbols
  left-below r among = number-below (left_of r) (named r among (left_of r) (contains-here (left_of r) (right_of r)))

  list-below : (x : ℕ × RuleItem) → Contains (enumerated 0 t.spec.rules) x → x.1.list ≡ true → cell t.spec symbols x.0 < length t.symbols
  list-below x m e = cell-below x.0 (map-contains (λ (z : ℕ × RuleItem). z.0) (filter (λ (z : ℕ × RuleItem). z.1.list) (enumerated 0 t.spec.rules)) x
      (filter-kept (λ (z : ℕ × RuleItem). z.1.list) (enumerated 0 t.spec.rules) x m e))

  behind : (a : ℕ) (xs : List ℕ) → a < length t.symbols → ((y : ℕ) → Contains xs y → y < length t.symbols) → (y : ℕ) → Contains (a ∷ xs) y → y < length t.symbols
  behind a xs l more y m = elim (contains-cons a y xs m) [ inl h ↦ subst (λ z. z < length t.symbols) h l | inr k ↦ more y k ]

  none : (y : ℕ) → Contains {X = ℕ} [] y → y < length t.symbols
  none y m = absurd (contains-nil y m)

  written-inside : (x : ℕ × RuleItem) → Contains (enumerated 0 t.spec.rules) x → IsInside (written_rule t.spec symbols x)
  written-inside x m = behind (number t.spec symbols (left_of x.1)) (if x.1.list then cell t.spec symbols x.0 ∷ [] else map (number t.spec symbols) (right_of x.1)) (left-below x.1 among) (by x.1.list refl)
    where
      among : Contains t.spec.rules x.1
      among = enumerated-part 0 t.spec.rules x m

      by : (b : Bool) → x.1.list ≡ b → (y : ℕ) → Contains (if b then cell t.spec symbols x.0 ∷ [] else map (number t.spec symbols) (right_of x.1)) y → y < length t.symbols
      by true e = behind (cell t.spec symbols x.0) [] (list-below x m e) none
      by false e = numbers-below x.1 among (right_of x.1) (λ z k. contains-later (left_of x.1) z (right_of x.1) k)

  -- the rules of the cell of that written rule
  abbrev link : ℕ → ℕ → PlainRule
  link i s = record { rule = i; role = Link s; left = cell t.spec symbols i; right = number t.spec symbols s ∷ cell t.spec symbols i ∷ [] }

  abbrev end : ℕ → PlainRule
  end i = record { rule = i; role = End; left = cell t.spec symbols i; right = [] }

  cells-inside : (x : ℕ × RuleItem) → Contains (enumerated 0 t.spec.rules) x → (p : PlainRule) → Contains (cell_rules t.spec symbols x) p → IsInside p
  cells-inside x m p = by x.1.list refl
    where
      among : Contains t.spec.rules x.1
      among = enumerated-part 0 t.spec.rules x m

      link-inside : x.1.list ≡ true → (s : ℕ) → Contains (different (right_of x.1)) s → IsInside (link x.0 s)
      link-inside e s k = behind (cell t.spec symbols x.0) (number t.spec symbols s ∷ cell t.spec symbols x.0 ∷ []) (list-below x m e)
          (behind (number t.spec symbols s) (cell t.spec symbols x.0 ∷ [])
          (number-below s (named x.1 among s (contains-later (left_of x.1) s (right_of x.1) (different-part (right_of x.1) s k))))
          (behind (cell t.spec symbols x.0) [] (list-below x m e) none))

      end-inside : x.1.list ≡ true → IsInside (end x.0)
      end-inside e = behind (cell t.spec symbols x.0) [] (list-below x m e) none

      by : (b : Bool) → x.1.list ≡ b → Contains (if b then map (link x.0) (different (right_of x.1)) ++ end x.0 ∷ [] else []) p → IsInside p
      by false e k = absurd (contains-nil p k)
      by true e k = elim (Contains-append_cases (map (link x.0) (different (right_of x.1))) (end x.0 ∷ []) p k) [
        | inl h ↦ let s = contains-map (link x.0) (different (right_of x.1)) p h in subst IsInside s.2 (link-inside e s.0 s.1)
        | inr h ↦ elim (contains-cons (end x.0) p [] h) [ inl f ↦ subst IsInside f (end-inside e) | inr n ↦ absurd (contains-nil p n) ]
      ]

  pub inside : (p : PlainRule) → Contains (plain_rules t.spec symbols) p → (y : ℕ) → Contains (p.left ∷ p.right) y → y < length t.symbols
  inside p m = elim (Contains-append_cases (map (written_rule t.spec symbols) (enumerated 0 t.spec.rules)) (flat_map (cell_rules t.spec symbols) (enumerated 0 t.spec.rules)) p m) [
    | inl h ↦ let x = contains-map (written_rule t.spec symbols) (enumerated 0 t.spec.rules) p h in subst IsInside x.2 (written-inside x.0 x.1)
    | inr h ↦ let x = contains-flat (cell_rules t.spec symbols) (enumerated 0 t.spec.rules) p h in cells-inside x.0 x.1 p x.2
  ]

  -- so has the root
  pub root-below : t.root.0 < length t.symbols
  root-below =
      let r = contains-map left_of t.spec.rules is.root.0 (contains-test is.root.0 (map left_of t.spec.rules) is.root.1.0) in
      subst (λ n. n < length t.symbols) (ap (number t.spec symbols) r.2 ∙ sym is.root.2) (left-below r.0 r.1)
