-- The symbols of the flat grammar by their numbers.
use Rattle.std.specs.Prelude.{IsTrue, slice_get, codes, nat_eq}
use Rattle.std.proofs.Common.{◌≡◌, ℕ, ◌+◌, ◌-◌, ◌<◌, ◌≤◌, ◌⊎◌, inl, inr, true, List, ◌++◌, length, Option, Some, None, refl, sym, ap, subst, ◌∙◌, arith}
use Rattle.std.proofs.lemmas.Bool.{cases_lt}
use Rattle.std.proofs.lemmas.Option.{same_Some, slice_get_within}
use Rattle.lido_base.specs.Environment.{Environment}
use Rattle.lido_base.specs.declared.ids.SymId.{SymId}
use Rattle.lido_base.specs.declared.value.ValueType.{ValueType}
use Rattle.lido_base.proofs.Lists.{place-contains, place-below}
use Rattle.flat_grammar.specs.declared.flat.FlatSymbol.{FlatSymbol}
use Rattle.flat_grammar.specs.declared.flat.FlatRule.{FlatRule}
use Rattle.flat_grammar.specs.declared.flat.Shape.{Shape}
use Rattle.flat_grammar.specs.WellFormed.{is_nonterminal, is_nonterminal_symbol}
use Rattle.lido_syntax.specs.declared.spec.Spec.{Spec}
use Rattle.lido_syntax.specs.declared.spec.RuleItem.{RuleItem}
use Rattle.lido_syntax.specs.Functions.{text_of}
use Rattle.lido_syntax.specs.Symbols.{IsNonterminal}
use Rattle.lido_symbols.specs.Numbers.{place_in}
use Rattle.rule_tables.specs.PlainRules.{lists, number, cell}
use Rattle.rule_tables.specs.Needs.{Tables, Needs, AreTables}
use Rattle.rule_tables.specs.Slots.{Slot}
use Rattle.rule_tables.specs.Flat.{IsFlat, IsSymbolType}
use Rattle.flat_laws.proofs.SymbolLemmas.{nonterminal-number, list-rule, list-place}

module _ (spec : Spec) (env : Environment) (T : Tables spec) (tables : AreTables spec T env) (needs : Needs spec T) (slots : ℕ → List Slot) (symbols : List FlatSymbol) (flat_rules : List FlatRule) (shapes : List Shape) (root : SymId)
    (is : IsFlat spec T needs slots env symbols flat_rules shapes root) where
  -- the symbol of a number is that of the tables, or a cell
  pub record IsNamedAt (x s : ℕ) (y : FlatSymbol) : Type 0 where
    pub there : slice_get symbols x ≡ Some y
    pub number : slice_get T.symbols x ≡ Some s
    pub name : y.name.0 ≡ s
    pub ty : IsSymbolType spec T needs slots env s y.terminal

  pub record IsCellAt (x i : ℕ) (r : RuleItem) (y : FlatSymbol) : Type 0 where
    pub there : slice_get symbols x ≡ Some y
    pub rule : slice_get spec.rules i ≡ Some r
    pub list : r.list ≡ true
    pub place : slice_get (lists spec T.symbols) (x - length T.symbols) ≡ Some i
    pub past : length T.symbols ≤ x
    pub name : text_of env y.name.0 ≡ codes "$" ++ text_of env r.name.0
    pub bare : y.terminal ≡ None

  pub data IsSymbolAt (x : ℕ) (y : FlatSymbol) : Type 0 where
    named : (s : ℕ) → IsNamedAt x s y → IsSymbolAt x y
    cell_of : (i : ℕ) (r : RuleItem) → IsCellAt x i r y → IsSymbolAt x y

  pub named-at : (x s : ℕ) → slice_get T.symbols x ≡ Some s → (y : FlatSymbol) × IsNamedAt x s y
  named-at x s e =
      let l = slice_get_within T.symbols x s e in
      let c = is.count in
      let (y, f) = place-below symbols x (omega arith) in
      let (name, ty) = is.named x s y e f in
      (y, record { there = f; number = e; name = name; ty = ty })

  cell-here : (x k i : ℕ) (y : FlatSymbol) → slice_get symbols x ≡ Some y → x ≡ length T.symbols + k → slice_get (lists spec T.symbols) k ≡ Some i → (r : RuleItem) × IsCellAt x i r y
  cell-here x k i y f e g =
      let (r, of, l) = list-rule spec T.symbols i (place-contains (lists spec T.symbols) k i g) in
      let (name, bare) = is.cells k i r y g of (subst (λ z. slice_get symbols z ≡ Some y) e f) in
      let z : x - length T.symbols ≡ k = omega arith in
      (r, record { there = f; rule = of; list = l; place = ap (slice_get (lists spec T.symbols)) z ∙ g; past = omega arith; name = name; bare = bare })

  pub cell-at : (i : ℕ) (r : RuleItem) → slice_get spec.rules i ≡ Some r → r.list ≡ true → (y : FlatSymbol) × IsCellAt (cell spec T.symbols i) i r y
  cell-at i r of l =
      let k = place_in (nat_eq i) (lists spec T.symbols) in
      let g = list-place spec T.symbols i r of l in
      let w = slice_get_within (lists spec T.symbols) k i g in
      let c = is.count in
      let (y, f) = place-below symbols (cell spec T.symbols i) (omega arith) in
      let (q, its) = cell-here (cell spec T.symbols i) k i y f refl g in
      (y, subst (λ (q : RuleItem). IsCellAt (cell spec T.symbols i) i q y) (same_Some q r (sym its.rule ∙ of)) its)

  pub symbol-at : (x : ℕ) (y : FlatSymbol) → slice_get symbols x ≡ Some y → IsSymbolAt x y
  symbol-at x y f = by (cases_lt x (length T.symbols))
    where
      by : (x < length T.symbols) ⊎ (length T.symbols ≤ x) → IsSymbolAt x y
      by (inl lt) =
          let (s, e) = place-below T.symbols x lt in
          let (name, ty) = is.named x s y e f in
          named s (record { there = f; number = e; name = name; ty = ty })
      by (inr le) =
          let w = slice_get_within symbols x y f in
          let c = is.count in
          let (i, g) = place-below (lists spec T.symbols) (x - length T.symbols) (omega arith) in
          let (r, its) = cell-here x (x - length T.symbols) i y f (omega arith) g in
          cell_of i r its

  -- a nonterminal counts as one
  pub bare-nonterminal : (s : ℕ) (o : Option ValueType) → IsNonterminal spec s → IsSymbolType spec T needs slots env s o → o ≡ None
  bare-nonterminal s None n h = refl
  bare-nonterminal s (Some ty) n h = absurd (h.0 n)

  is-bare : (y : FlatSymbol) (o : Option ValueType) → y.terminal ≡ o → o ≡ None → is_nonterminal_symbol (Some y) ≡ true
  is-bare y o e f = ap (λ (p : Option ValueType). is_nonterminal_symbol (Some (record y { terminal = p }))) (e ∙ f)

  pub bare-at : (x : ℕ) (y : FlatSymbol) (id : SymId) → slice_get symbols x ≡ Some y → y.terminal ≡ None → id.0 ≡ x → IsTrue (is_nonterminal symbols id)
  bare-at x y id f bare e = ap (λ n. is_nonterminal_symbol (slice_get symbols n)) e ∙ ap is_nonterminal_symbol f ∙ is-bare y y.terminal refl bare

  pub nonterminal-at : (s : ℕ) (id : SymId) → IsNonterminal spec s → id.0 ≡ number spec T.symbols s → IsTrue (is_nonterminal symbols id)
  nonterminal-at s id n e =
      let (y, its) = named-at (number spec T.symbols s) s (nonterminal-number spec env T tables s n) in
      bare-at (number spec T.symbols s) y id its.there (bare-nonterminal s y.terminal n its.ty) e

  pub cell-nonterminal : (i : ℕ) (r : RuleItem) (id : SymId) → slice_get spec.rules i ≡ Some r → r.list ≡ true → id.0 ≡ cell spec T.symbols i → IsTrue (is_nonterminal symbols id)
  cell-nonterminal i r id of l e = let (y, its) = cell-at i r of l in bare-at (cell spec T.symbols i) y id its.there its.bare e

  pub root-nonterminal : IsTrue (is_nonterminal symbols root)
  root-nonterminal = let (s, n, e) = is.root_symbol in nonterminal-at s root n.0 e
