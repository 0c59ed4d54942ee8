-- The rules of the flat grammar, and its lists, are as they have to be.
use Rattle.std.specs.Prelude.{Contains, IsTrue, All, slice_get, is_some, option_and_then}
use Rattle.std.proofs.Common.{◌≡◌, ℕ, false, true, List, Option, Some, None, refl, sym, ap, subst, ◌∙◌}
use Rattle.std.proofs.lemmas.Option.{none-some, same_Some}
use Rattle.std.proofs.lemmas.List.Elements.{All-contains}
use Rattle.lido_base.specs.Environment.{Environment}
use Rattle.lido_base.specs.declared.ids.SymId.{SymId}
use Rattle.lido_base.specs.declared.value.ValueType.{ValueType}
use Rattle.lido_base.proofs.Lists.{contains-later, place-contains}
use Rattle.flat_grammar.specs.declared.flat.FlatSymbol.{FlatSymbol}
use Rattle.flat_grammar.specs.declared.flat.FlatRule.{FlatRule}
use Rattle.flat_grammar.specs.declared.flat.FlatComp.{FlatComp}
use Rattle.flat_grammar.specs.declared.flat.FlatExpr.{FlatExpr}
use Rattle.flat_grammar.specs.declared.flat.Shape.{Shape}
use Rattle.flat_grammar.specs.Rules.{terminals_of}
use Rattle.flat_grammar.specs.WellFormed.{is_terminal_at, cell_of, right_side, IsListShape, IsRule}
use Rattle.lido_syntax.specs.declared.spec.Spec.{Spec}
use Rattle.lido_syntax.specs.declared.spec.Name.{Name}
use Rattle.lido_syntax.specs.declared.spec.RuleItem.{RuleItem}
use Rattle.lido_syntax.specs.declared.spec.Element.{Element}
use Rattle.lido_syntax.specs.declared.spec.Element.TheVariants.{Symbol, Literal}
use Rattle.lido_syntax.specs.Production.{name_of, left_of, right_of, symbol_of}
use Rattle.lido_syntax.specs.Symbols.{IsNonterminal, IsTerminal}
use Rattle.kind_clashes.specs.KindClash as clash
use Rattle.rule_tables.specs.Needs.{Tables, Needs, AreTables}
use Rattle.rule_tables.specs.PlainRules.{number}
use Rattle.rule_tables.specs.Slots.{Slot, AreSlots}
use Rattle.rule_tables.specs.Flat.{IsFlat, IsSymbolType}
use Rattle.flat_laws.specs.Accepted.{IsAccepted, AreNames}
use Rattle.flat_laws.proofs.Lists.{all-places}
use Rattle.flat_laws.proofs.RuleLemmas.{IsFlatAt, flat-at}
use Rattle.flat_laws.proofs.FlatSymbolLemmas.{named-at, nonterminal-at}
use Rattle.flat_laws.proofs.FaultLemmas.{no-clash, no-class, is-nonterminal, plain-terminal}
use Rattle.flat_laws.proofs.NeedLemmas.{of-filter-map}
use Rattle.flat_laws.proofs.TerminalLemmas.{IsTerminalAt, equation-terminals}
use Rattle.flat_laws.proofs.FlatRuleLemmas.{all-of, flat-symbol, left-side, right-side, goals, dependencies-in_range, origins}
use Rattle.flat_laws.proofs.ShapeLemmas.{shape-at, plain-shape, list-shape}

module _ (spec : Spec) (early env : Environment) (T : Tables spec) (tables : AreTables spec T env) (accepted : IsAccepted spec early T) (names : AreNames spec early env) (needs : Needs spec T) (slots : ℕ → List Slot) (are : AreSlots spec T needs slots)
    (symbols : List FlatSymbol) (flat_rules : List FlatRule) (shapes : List Shape) (root : SymId) (is : IsFlat spec T needs slots env symbols flat_rules shapes root) where
  -- ---- rules

  module _ (i : ℕ) (flat : FlatRule) (at : IsFlatAt spec env T tables needs slots symbols flat_rules shapes root is i flat) where
    abbrev Terminal : ℕ → Type 0
    Terminal = IsTerminalAt spec early env T tables accepted names needs i at.p at.fs at.of_ruled slots at.is_flat.rule at.is_flat.of_rule

    typed : (s : ℕ) (o : Option ValueType) → ¬ IsNonterminal spec s → IsSymbolType spec T needs slots env s o → is_some o ≡ true
    typed s None unlike n = absurd (unlike n)
    typed s (Some ty) unlike h = refl

    terminal-at : (k : ℕ) → Terminal k → IsTrue (is_terminal_at symbols flat k)
    terminal-at k h =
        let (y, its) = named-at spec env T tables needs slots symbols flat_rules shapes root is h.x h.s h.named in
        let here = flat-symbol spec early env T tables accepted needs slots are symbols flat_rules shapes root is i flat at k h.x h.at in
        ap (λ (o : Option SymId). is_some (option_and_then {T = FlatSymbol} {U = ValueType} (λ (x : FlatSymbol). x.terminal) (option_and_then {T = SymId} {U = FlatSymbol} (λ (s : SymId). slice_get symbols s.0) o))) here
        ∙ ap (λ (o : Option FlatSymbol). is_some (option_and_then {T = FlatSymbol} {U = ValueType} (λ (x : FlatSymbol). x.terminal) o)) its.there
        ∙ typed h.s y.terminal h.terminal its.ty

    terminals : All (λ (c : FlatComp). All (λ k. IsTrue (is_terminal_at symbols flat k)) (terminals_of c.value)) flat.comps
    terminals = all-of (λ (c : FlatComp). All (λ k. IsTrue (is_terminal_at symbols flat k)) (terminals_of c.value)) flat.comps (λ c m.
        (let (k, s, origin, value, deps, equation, given) = at.is_flat.only c m in
        let those = equation-terminals spec early env T tables accepted names needs i at.p at.fs at.of_ruled slots at.is_flat.rule at.is_flat.of_rule k s origin value deps equation in
        all-of (λ k. IsTrue (is_terminal_at symbols flat k)) (terminals_of c.value) (λ n mn. terminal-at n (those n (subst (λ (e : FlatExpr). Contains (terminals_of e) n) given.gives mn)))))

    pub is-rule : IsRule symbols flat
    is-rule = record {
      left_side = left-side spec early env T tables accepted needs slots are symbols flat_rules shapes root is i flat at;
      right_side = right-side spec early env T tables accepted needs slots are symbols flat_rules shapes root is i flat at;
      goals = goals spec early env T tables accepted needs slots are symbols flat_rules shapes root is i flat at;
      once = at.is_flat.once;
      dependencies_in_range = dependencies-in_range spec early env T tables accepted needs slots are symbols flat_rules shapes root is i flat at;
      terminals = terminals;
      origins = origins spec early env T tables accepted needs slots are symbols flat_rules shapes root is i flat at;
    }

  pub each-rule : All (IsRule symbols) flat_rules
  each-rule = all-places (IsRule symbols) flat_rules (λ i flat e. is-rule i flat (flat-at spec env T tables needs slots symbols flat_rules shapes root is i flat e))

  -- ---- shapes

  pub each-plain : All (λ (shape : Shape). shape.list ≡ false → shape.right ≡ right_side flat_rules shape) shapes
  each-plain = all-places (λ (shape : Shape). shape.list ≡ false → shape.right ≡ right_side flat_rules shape) shapes (λ k shape e l. plain-shape spec env T tables needs slots symbols flat_rules shapes root is k shape e l)

  symbol-element : (e : Element) (s : ℕ) → symbol_of e ≡ Some s → (x : Name) × (e ≡ Symbol x) × (name_of x ≡ s)
  symbol-element (Symbol x) s e = (x, refl, same_Some (name_of x) s e)
  symbol-element (Literal t) s e = absurd (none-some s e)

  -- each element of a list is a nonterminal
  element-nonterminal : (r : RuleItem) → Contains spec.rules r → r.list ≡ true → (s : ℕ) → Contains (right_of r) s → IsNonterminal spec s
  element-nonterminal r among l s m = is-nonterminal spec early T accepted s (λ none.
      plain-terminal spec early T accepted r among s m (no-class spec early T accepted r among s (contains-later (left_of r) s (right_of r) m)) none (λ plain.
      (let (e, me, same) = of-filter-map symbol_of r.right s m in
      let (x, is_symbol, name) = symbol-element e s same in
      no-clash spec early T accepted x.at (clash.terminal_in_list r x plain.0.0 among l (subst (Contains r.right) is_symbol me) (subst (λ z. IsTerminal spec z plain.0.0) (sym name) plain.0.1) refl))))

  pub each-list : All (λ (shape : Shape). IsTrue shape.list → IsListShape symbols flat_rules shape (cell_of flat_rules shape)) shapes
  each-list = all-places (λ (shape : Shape). IsTrue shape.list → IsListShape symbols flat_rules shape (cell_of flat_rules shape)) shapes (λ k shape e l. its k shape e l)
    where
      its : (k : ℕ) (shape : Shape) → slice_get shapes k ≡ Some shape → shape.list ≡ true → IsListShape symbols flat_rules shape (cell_of flat_rules shape)
      its k shape e l =
          let at = shape-at spec env T tables needs slots symbols flat_rules shapes root is k shape e in
          let among = place-contains spec.rules k at.r at.of in
          list-shape spec env T tables needs slots symbols flat_rules shapes root is k shape e l (λ s m.
          nonterminal-at spec env T tables needs slots symbols flat_rules shapes root is s (record { 0 = number spec T.symbols s }) (element-nonterminal at.r among (sym at.list ∙ l) s m) refl)
