-- Symbols and cells by their numbers.
use Rattle.std.specs.Prelude.{Contains, IsTrue, slice_get, nat_eq, map, flat_map, filter, filter_map}
use Rattle.std.proofs.Common.{◌≡◌, ℕ, zero, suc, ◌-◌, ◌<◌, ◌≤◌, ◌⊎◌, inl, inr, Bool, true, false, cond, List, [], ◌∷◌, ◌++◌, length, Some, refl, sym, ap, subst, ◌∙◌, arith, eqb-true, eq-eqb, zero-add}
use Rattle.std.proofs.lemmas.Bool.{cases_lt}
use Rattle.std.proofs.lemmas.Option.{same_Some, slice_get_within, get_or_from_slice_get}
use Rattle.std.proofs.lemmas.List.Elements.{Contains-append_left}
use Rattle.lido_base.specs.Environment.{Environment}
use Rattle.lido_base.proofs.Lists.{contains-nil, contains-cons, contains-here, contains-later, contains-map, map-contains, flat-contains, place-contains}
use Rattle.lido_base.proofs.TreeLemmas.{contains-test, test-contains}
use Rattle.lido_syntax.specs.declared.spec.Spec.{Spec}
use Rattle.lido_syntax.specs.declared.spec.Typed1.{Typed1}
use Rattle.lido_syntax.specs.declared.spec.RuleItem.{RuleItem}
use Rattle.lido_syntax.specs.declared.spec.Element.{Element}
use Rattle.lido_syntax.specs.declared.spec.Element.TheVariants.{Symbol, Literal}
use Rattle.lido_syntax.specs.Production.{name_of, left_of, right_of, symbol_of, symbols_of}
use Rattle.lido_syntax.specs.Symbols.{IsNonterminal}
use Rattle.lido_symbols.specs.Numbers.{place_in, enumerated}
use Rattle.lido_symbols.specs.Uses.{symbols_of_rule, symbols_of_item, symbols_of_computation, production_names, element_name, is_coordinate_of_rule, with_place}
use Rattle.rule_tables.specs.PlainRules.{lists, number, cell}
use Rattle.rule_tables.specs.Needs.{Tables, AreTables}
use Rattle.rule_tables.proofs.SlotLemmas.{number-at_place, enumerated-at}
use Rattle.lido_symbols.specs.Numbers.{AreNumbered}
use Rattle.flat_laws.proofs.Lists.{pair-at, enumerated-rule}

pub names-right : (es : List Element) → map name_of (filter_map element_name es) ≡ filter_map symbol_of es
names-right [] = refl
names-right (Symbol n ∷ es) = ap (λ l. name_of n ∷ l) (names-right es)
names-right (Literal s ∷ es) = names-right es

-- what passes the test stays
pub kept : {X : Type 0} (test : X → Bool) (xs : List X) (x : X) → Contains xs x → test x ≡ true → Contains (filter test xs) x
kept test [] x m pass = absurd (contains-nil x m)
kept {X} test (y ∷ ys) x m pass = by (test y) refl (contains-cons y x ys m) (λ m. kept test ys x m pass)
  where
    by : (b : Bool) → test y ≡ b → (y ≡ x) ⊎ Contains ys x → (Contains ys x → Contains (filter test ys) x) → Contains (cond b (y ∷ filter test ys) (filter test ys)) x
    by true e (inl same) later = subst (λ z. Contains (y ∷ filter test ys) z) same (contains-here y (filter test ys))
    by true e (inr m) later = contains-later y x (filter test ys) (later m)
    by false e (inl same) later = let wrong : true ≡ false = sym pass ∙ ap test (sym same) ∙ e in absurd (cc)
    by false e (inr m) later = later m

-- what passes stays, and passes
pub filtered : {X : Type 0} (test : X → Bool) (xs : List X) (x : X) → Contains (filter test xs) x → Contains xs x × (test x ≡ true)
filtered test [] x m = absurd (contains-nil x m)
filtered {X} test (y ∷ ys) x m = by (test y) refl (filtered test ys x) m
  where
    by : (b : Bool) → test y ≡ b → (Contains (filter test ys) x → Contains ys x × (test x ≡ true)) → Contains (cond b (y ∷ filter test ys) (filter test ys)) x → Contains (y ∷ ys) x × (test x ≡ true)
    by true e later m = elim (contains-cons y x (filter test ys) m) [
      | inl same ↦ (subst (λ z. Contains (y ∷ ys) z) same (contains-here y ys), ap test (sym same) ∙ e)
      | inr k ↦ (contains-later y x ys (later k).0, (later k).1)
    ]
    by false e later m = (contains-later y x ys (later m).0, (later m).1)

-- a key has one number
module _ (uses : List (ℕ × ℕ)) (keys : List ℕ) (numbered : AreNumbered nat_eq uses keys) where
  -- before each naming of a key that stands twice there would be another one
  descent : (n at j k : ℕ) → at < n → Contains uses (at, j) → j ≡ k
      → ((at j : ℕ) → Contains uses (at, j) → IsTrue (nat_eq j k) → (first : ℕ) × (i : ℕ) × Contains uses (first, i) × IsTrue (nat_eq i k) × (first < at)) → ⊥
  descent zero at j k h m e before = absurd (omega (arith, h))
  descent (suc n) at j k h m e before =
      let (first, i, there, same, less) = before at j m (eq-eqb j k e) in
      descent n first i k (omega arith) there (eqb-true i k same) before

  before-itself : (i j k : ℕ) → slice_get keys i ≡ Some k → slice_get keys j ≡ Some k → i < j → ⊥
  before-itself i j k e f h =
      let (at, m) = numbered.named i k (slice_get_within keys i k e) in
      let here = get_or_from_slice_get keys i k k e in
      descent (suc at) at k k (omega arith) (subst (λ x. Contains uses (at, x)) here m) refl
      (λ at' j' m same. pair-at (λ k l. (at : ℕ) (j : ℕ) → Contains uses (at, j) → IsTrue (nat_eq j l) → (first : ℕ) × (i : ℕ) × Contains uses (first, i) × IsTrue (nat_eq i k) × (first < at))
      keys i j k k numbered.by_place e f h at' j' m same)

  pub one-number : (i j k : ℕ) → slice_get keys i ≡ Some k → slice_get keys j ≡ Some k → i ≡ j
  one-number i j k e f = by (cases_lt i j)
    where
      by : (i < j) ⊎ (j ≤ i) → i ≡ j
      by (inl h) = absurd (before-itself i j k e f h)
      by (inr h) = at_most (cases_lt j i)
        where
          at_most : (j < i) ⊎ (i ≤ j) → i ≡ j
          at_most (inl g) = absurd (before-itself j i k f e g)
          at_most (inr g) = omega arith

module _ (spec : Spec) where
  -- a nonterminal is the left side of a rule
  pub nonterminal-rule : (s : ℕ) → IsNonterminal spec s → (r : RuleItem) × Contains spec.rules r × (left_of r ≡ s)
  nonterminal-rule s is = contains-map left_of spec.rules s (contains-test s (map left_of spec.rules) is)

  pub left-nonterminal : (r : RuleItem) → Contains spec.rules r → IsNonterminal spec (left_of r)
  left-nonterminal r among = test-contains (left_of r) (map left_of spec.rules) (map-contains left_of spec.rules r among)

module _ (spec : Spec) (env : Environment) (T : Tables spec) (tables : AreTables spec T env) where
  -- the symbols of a production have numbers
  pub in-symbols : (r : RuleItem) → Contains spec.rules r → (x : ℕ) → Contains (symbols_of r) x → Contains T.symbols x
  in-symbols r among x m =
      let n = contains-map name_of (production_names r) x (subst (λ l. Contains (left_of r ∷ l) x) (sym (names-right r.right)) m) in
      let body = flat_map (symbols_of_computation (is_coordinate_of_rule env r)) r.body in
      let items = flat_map (symbols_of_item spec env) spec.symbols in
      let terms = map (λ (y : Typed1). y.name) spec.terms in
      let in_rule = Contains-append_left (production_names r) body n.0 n.1 in
      let rules = flat_map (symbols_of_rule spec env) spec.rules in
      let in_rules = Contains-append_left (rules ++ items) terms n.0 (Contains-append_left rules items n.0 (flat-contains (symbols_of_rule spec env) spec.rules r n.0 among in_rule)) in
      let naming = map-contains with_place (rules ++ items ++ terms) n.0 in_rules in
      let key = tables.symbols.all n.0.at (name_of n.0) naming in
      subst (λ z. Contains T.symbols z) (sym (eqb-true (name_of n.0) key.0 key.2) ∙ n.2) key.1

  pub symbol-number : (r : RuleItem) → Contains spec.rules r → (x : ℕ) → Contains (symbols_of r) x → slice_get T.symbols (number spec T.symbols x) ≡ Some x
  symbol-number r among x m = number-at_place x T.symbols (in-symbols r among x m)

  pub left-number : (r : RuleItem) → Contains spec.rules r → slice_get T.symbols (number spec T.symbols (left_of r)) ≡ Some (left_of r)
  left-number r among = symbol-number r among (left_of r) (contains-here (left_of r) (right_of r))

  pub right-number : (r : RuleItem) → Contains spec.rules r → (x : ℕ) → Contains (right_of r) x → slice_get T.symbols (number spec T.symbols x) ≡ Some x
  right-number r among x m = symbol-number r among x (contains-later (left_of r) x (right_of r) m)

  pub nonterminal-number : (s : ℕ) → IsNonterminal spec s → slice_get T.symbols (number spec T.symbols s) ≡ Some s
  nonterminal-number s is =
      let (r, among, e) = nonterminal-rule spec s is in
      subst (λ z. slice_get T.symbols (number spec T.symbols z) ≡ Some z) e (left-number r among)

  -- a number is that of one symbol alone, and a symbol has one number
  pub one-symbol : (i j s : ℕ) → slice_get T.symbols i ≡ Some s → slice_get T.symbols j ≡ Some s → i ≡ j
  one-symbol = one-number _ T.symbols tables.symbols

-- ---- lists and cells

abbrev pub is_list_at : ℕ × RuleItem → Bool
is_list_at x = x.1.list

module _ (spec : Spec) (symbols : List ℕ) where
  abbrev pub numbered : List (ℕ × RuleItem)
  numbered = enumerated 0 spec.rules

  pub numbered-rule : (x : ℕ × RuleItem) → Contains numbered x → slice_get spec.rules x.0 ≡ Some x.1
  numbered-rule x m = let h = enumerated-rule 0 x.0 x.1 spec.rules m in let z : x.0 - 0 ≡ x.0 = omega arith in ap (slice_get spec.rules) (sym z) ∙ h.1

  pub rule-numbered : (i : ℕ) (r : RuleItem) → slice_get spec.rules i ≡ Some r → slice_get numbered i ≡ Some (let x : ℕ × RuleItem = (i, r) in x)
  rule-numbered i r e = enumerated-at 0 i r spec.rules e ∙ ap (λ n. Some (let x : ℕ × RuleItem = (n, r) in x)) (zero-add i)

  -- a list of the specification
  pub list-rule : (i : ℕ) → Contains (lists spec symbols) i → (r : RuleItem) × (slice_get spec.rules i ≡ Some r) × (r.list ≡ true)
  list-rule i m =
      let (x, among, e) = contains-map (λ (x : ℕ × RuleItem). x.0) (filter is_list_at numbered) i m in
      let (there, pass) = filtered is_list_at numbered x among in
      (x.1, subst (λ n. slice_get spec.rules n ≡ Some x.1) e (numbered-rule x there), pass)

  pub rule-list : (i : ℕ) (r : RuleItem) → slice_get spec.rules i ≡ Some r → r.list ≡ true → Contains (lists spec symbols) i
  rule-list i r e l =
      map-contains (λ (x : ℕ × RuleItem). x.0) (filter is_list_at numbered) (i, r)
      (kept is_list_at numbered (i, r) (place-contains numbered i (i, r) (rule-numbered i r e)) l)

  -- the cell of a list has a number, by which the list is found
  pub list-place : (i : ℕ) (r : RuleItem) → slice_get spec.rules i ≡ Some r → r.list ≡ true → slice_get (lists spec symbols) (place_in (nat_eq i) (lists spec symbols)) ≡ Some i
  list-place i r e l = number-at_place i (lists spec symbols) (rule-list i r e l)

  pub cell-past : (i : ℕ) → length symbols ≤ cell spec symbols i
  cell-past i = omega arith

  pub one-cell : (i j : ℕ) (r q : RuleItem) → slice_get spec.rules i ≡ Some r → r.list ≡ true → slice_get spec.rules j ≡ Some q → q.list ≡ true → cell spec symbols i ≡ cell spec symbols j → i ≡ j
  one-cell i j r q e l f k same =
      let place : place_in (nat_eq i) (lists spec symbols) ≡ place_in (nat_eq j) (lists spec symbols) = omega arith in
      same_Some i j (sym (list-place i r e l) ∙ ap (slice_get (lists spec symbols)) place ∙ list-place j q f k)
