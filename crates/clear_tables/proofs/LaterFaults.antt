-- More texts make no fault of the tables of a specification whose names are ids of those that are there.
use Rattle.std.specs.Prelude.{ℤ, ◌+◌, false, Contains, IsTrue, Some, None, map, filter, flat_map, if◌then◌else◌, is_some}
use Rattle.std.proofs.Common.{◌≡◌, ℕ, ◌<◌, List, [], ◌++◌, length, Option, refl, ap, sym, subst, ◌∙◌}
use Rattle.std.proofs.lemmas.List.Elements.{Contains-append_left, Contains-append_right}
use Rattle.lido_base.specs.declared.kinds.Many.{Many}
use Rattle.lido_base.specs.declared.kinds.Many.TheVariants as many
use Rattle.lido_base.specs.Environment.{Environment}
use Rattle.lido_base.specs.Faults.{HasNone, AtPlace}
use Rattle.lido_base.specs.Texts.{Gains}
use Rattle.lido_base.specs.Tree.{contains}
use Rattle.lido_base.proofs.FaultsLemmas.{at_place-none}
use Rattle.lido_base.proofs.Lists.{contains-here, flat-contains, place-below}
use Rattle.lido_syntax.specs.declared.fault.SpecFault.{SpecFault}
use Rattle.lido_syntax.specs.declared.fault.SpecFault.TheVariants as fault
use Rattle.lido_syntax.specs.declared.spec.Spec.{Spec}
use Rattle.lido_syntax.specs.declared.spec.Name.{Name}
use Rattle.lido_syntax.specs.declared.spec.Comp.{Comp}
use Rattle.lido_syntax.specs.declared.spec.Typed1.{Typed1}
use Rattle.lido_syntax.specs.declared.spec.RuleItem.{RuleItem}
use Rattle.lido_syntax.specs.declared.spec.SymbolItem.{SymbolItem}
use Rattle.lido_syntax.specs.declared.spec.Place.{Place}
use Rattle.lido_syntax.specs.declared.spec.Place.TheVariants as place
use Rattle.lido_syntax.specs.declared.spec.Expr.{Terminal}
use Rattle.lido_syntax.specs.Production.{name_of, symbols_of}
use Rattle.lido_syntax.specs.Parts.{leaves_of}
use Rattle.lido_syntax.specs.Coordinates.{part_named}
use Rattle.lido_syntax.specs.Functions.{text_of}
use Rattle.lido_symbols.specs.FromText.{all_names, names_of_rule, names_of_item}
use Rattle.lido_symbols.specs.Uses.{computations, declared_names, attributes_of_target, attributes_in, production_names, symbols_in, symbols_of_target, symbols_of_computation, is_coordinate_of_rule, is_coordinate_of_symbol}
use Rattle.lido_symbols.specs.Numbers.{different}
use Rattle.kind_clashes.specs.KindClash.{IsKindClash, class_in_production, faulty_term, terminal_in_list, inherits_no_class, attribute_of_terminal, twofold_attribute, chain_declared_again, chain_in_pair, chain_elsewhere, no_chain, target_by_this, below_in_inh, tail_in_start, bare_nonterminal}
use Rattle.table_faults.specs.Faults.{table_faults, IsKnown, IsForeign, IsUnknown, IsDuplicate, IsRootNotOne, IsBadIndex, IsDouble, IsBadOut, IsTooMany, IsTooManyOf, class, declared, in_production, nowhere, in_rule, bare_in_rule, in_symbol, bare_in_symbol, later, of_place, bare, not_at_root, second, symbols, rules, elements, computations_and_constituents}
use Rattle.rule_tables.specs.RuleNames.{HasIds}
use Rattle.rule_tables.proofs.LaterTexts.{later-text, no-more}
use Rattle.rule_tables.proofs.LaterUses.{uses-same, of-rule}

-- a bare name of a computation is among its symbols where no name is a coordinate
bare-there : (c : Comp) (x : Name) (i : Option ℤ) → Contains (leaves_of c) (Terminal x i) → Contains (symbols_of_computation (λ x i. false) c) x
bare-there c x i leaf = Contains-append_right (symbols_of_target c.target) (flat_map (symbols_in (λ x i. false)) (leaves_of c)) x
    (flat-contains (symbols_in (λ x i. false)) (leaves_of c) (Terminal x i) x leaf (contains-here x []))

module _ (spec : Spec) where
  bare-of-rule : (r : RuleItem) (c : Comp) (x : Name) (i : Option ℤ) → Contains spec.rules r → Contains r.body c → Contains (leaves_of c) (Terminal x i) → Contains (all_names spec) x
  bare-of-rule r c x i m k leaf = of-rule spec r x m (Contains-append_right (production_names r) (flat_map (symbols_of_computation (λ x i. false)) r.body) x
      (flat-contains (symbols_of_computation (λ x i. false)) r.body c x k (bare-there c x i leaf)))

  abbrev in-rules : List Name
  in-rules = flat_map names_of_rule spec.rules

  abbrev in-items : List Name
  in-items = flat_map names_of_item spec.symbols

  abbrev in-terms : List Name
  in-terms = map (λ (x : Typed1). x.name) spec.terms

  abbrev in-uses : List Name
  in-uses = flat_map (λ (c : Comp). attributes_of_target c.target ++ flat_map attributes_in (leaves_of c)) (computations spec)

  abbrev in-chains : List Name
  in-chains = map (λ (x : Typed1). x.name) spec.chains

  bare-of-item : (item : SymbolItem) (c : Comp) (x : Name) (i : Option ℤ) → Contains spec.symbols item → Contains item.body c → Contains (leaves_of c) (Terminal x i) → Contains (all_names spec) x
  bare-of-item item c x i m k leaf =
      let name : Contains (names_of_item item) x = Contains-append_right (item.names ++ item.inherits) (flat_map (symbols_of_computation (λ x i. false)) item.body) x
      (flat-contains (symbols_of_computation (λ x i. false)) item.body c x k (bare-there c x i leaf)) in
      Contains-append_left (in-rules ++ in-items ++ in-terms ++ declared_names spec ++ in-uses) in-chains x
      (Contains-append_left (in-rules ++ in-items ++ in-terms ++ declared_names spec) in-uses x
      (Contains-append_left (in-rules ++ in-items ++ in-terms) (declared_names spec) x
      (Contains-append_left (in-rules ++ in-items) in-terms x
      (Contains-append_right in-rules in-items x (flat-contains names_of_item spec.symbols item x m name)))))

  module _ (env newer : Environment) (same : (x : Name) → Contains (all_names spec) x → text_of env (name_of x) ≡ text_of newer (name_of x)) where
    rule-coordinate : (r : RuleItem) (x : Name) (i : Option ℤ) → Contains (all_names spec) x → is_coordinate_of_rule env r x i ≡ is_coordinate_of_rule newer r x i
    rule-coordinate r x None m = ap (λ t. is_some (if contains (name_of x) (symbols_of r) then None else part_named t)) (same x m)
    rule-coordinate r x (Some i) m = refl

    symbol-coordinate : (x : Name) (i : Option ℤ) → Contains (all_names spec) x → is_coordinate_of_symbol env x i ≡ is_coordinate_of_symbol newer x i
    symbol-coordinate x None m = ap (λ t. is_some (part_named t)) (same x m)
    symbol-coordinate x (Some i) m = refl

    bare-in-rule : (r : RuleItem) (c : Comp) (x : Name) (i : Option ℤ) → Contains spec.rules r → Contains r.body c → Contains (leaves_of c) (Terminal x i)
        → ¬ IsTrue (is_coordinate_of_rule newer r x i) → ¬ IsTrue (is_coordinate_of_rule env r x i)
    bare-in-rule r c x i m k leaf none there = none (subst IsTrue (rule-coordinate r x i (bare-of-rule r c x i m k leaf)) there)

    bare-in-symbol : (item : SymbolItem) (c : Comp) (x : Name) (i : Option ℤ) → Contains spec.symbols item → Contains item.body c → Contains (leaves_of c) (Terminal x i)
        → ¬ IsTrue (is_coordinate_of_symbol newer x i) → ¬ IsTrue (is_coordinate_of_symbol env x i)
    bare-in-symbol item c x i m k leaf none there = none (subst IsTrue (symbol-coordinate x i (bare-of-item item c x i m k leaf)) there)

    known : (s : ℕ) → IsKnown spec env s → IsKnown spec newer s
    known s (class c) = class c
    known s (declared ty d) = declared ty d
    known s (in_production r m k) = in_production r m k

    foreign : (r : RuleItem) (p : Place) → IsForeign spec newer r p → IsForeign spec env r p
    foreign r (place.Named x i) f = f
    foreign r place.Tail f = f
    foreign r place.Synt f = f
    foreign r place.Inh f = f
    foreign r place.This f = f

    unknown : (at : ℕ) → IsUnknown spec newer at → IsUnknown spec env at
    unknown at (nowhere s m none) = nowhere s (subst (λ (u : List (ℕ × ℕ)). Contains u (at, s)) (sym (uses-same spec env newer same)) m) (λ k. none (known s k))
    unknown at (in_rule r c p m k is f) = in_rule r c p m k is (foreign r p f)
    unknown at (bare_in_rule r c x i m k is none e) = bare_in_rule r c x i m k (is.0, bare-in-rule r c x i m k is.0 is.1) none e
    unknown at (in_symbol item c x i m k is) = in_symbol item c x i m k is
    unknown at (bare_in_symbol item c x i m k is e) = bare_in_symbol item c x i m k (is.0, bare-in-symbol item c x i m k is.0 is.1) e

    duplicate : (at : ℕ) → IsDuplicate spec newer at → IsDuplicate spec env at
    duplicate at (later i j r q less a b e is) = later i j r q less a b e is

    root-not-one : (g : SpecFault) → IsRootNotOne spec newer g → IsRootNotOne spec env g
    root-not-one g (roots, are, many, e) = (roots, record { each = are.each; all = are.all; once = are.once }, many, e)

    clash : (at : ℕ) → IsKindClash spec newer at → IsKindClash spec env at
    clash at (class_in_production r x m k is e) = class_in_production r x m k is e
    clash at (faulty_term d m e is) = faulty_term d m e is
    clash at (terminal_in_list r x ty m e k is f) = terminal_in_list r x ty m e k is f
    clash at (inherits_no_class item x m k is e) = inherits_no_class item x m k is e
    clash at (attribute_of_terminal is) = attribute_of_terminal is
    clash at (twofold_attribute is) = twofold_attribute is
    clash at (chain_declared_again is) = chain_declared_again is
    clash at (chain_in_pair l p is k c e) = chain_in_pair l p is k c e
    clash at (chain_elsewhere is) = chain_elsewhere is
    clash at (no_chain c a m is none e) = no_chain c a m is none e
    clash at (target_by_this c a m t none e) = target_by_this c a m t none e
    clash at (below_in_inh s c a l m t k is) = below_in_inh s c a l m t k is
    clash at (tail_in_start c a b m t k) = tail_in_start c a b m t k
    clash at (bare_nonterminal r c x i m k leaf none is e) = bare_nonterminal r c x i m k leaf (bare-in-rule r c x i m k leaf none) is e

    bad-index : (at : ℕ) → IsBadIndex spec newer at → IsBadIndex spec env at
    bad-index at (of_place r c x i m k is none) = of_place r c x i m k is none
    bad-index at (bare r c x i m k is none e) = bare r c x i m k (is.0, bare-in-rule r c x i m k is.0 is.1) none e

    double : (at : ℕ) → IsDouble spec newer at → IsDouble spec env at
    double at (in_rule r k g c d m one other none less e) = in_rule r k g c d m one other none less e
    double at (in_symbol s g c d one other less e) = in_symbol s g c d one other less e

    bad-out : (at : ℕ) → IsBadOut spec newer at → IsBadOut spec env at
    bad-out at (in_symbol item c m k is e) = in_symbol item c m k is e
    bad-out at (not_at_root r c m k is none e) = not_at_root r c m k is none e
    bad-out at (second r c d m k l is other less e) = second r c d m k l is other less e

    too-many : (what : Many) → IsTooMany spec newer what → IsTooMany spec env what
    too-many what (symbols less) = symbols (subst (λ (u : List (ℕ × ℕ)). 512 < length (different (map (λ (x : ℕ × ℕ). x.1) u)) + length (filter (λ (r : RuleItem). r.list) spec.rules)) (sym (uses-same spec env newer same)) less)
    too-many what (rules less) = rules less
    too-many what (elements r m less) = elements r m less
    too-many what (computations_and_constituents less) = computations_and_constituents less

    at-place : (make : ℕ → SpecFault) (P Q : ℕ → Type 0) → ((at : ℕ) → Q at → P at) → ((g : SpecFault) → ¬ AtPlace make P g) → (g : SpecFault) → ¬ AtPlace make Q g
    at-place make P Q into none g (at, least, e) = at_place-none make P none at (into at least.there)

    not-too-many : (what : Many) → ((g : SpecFault) → ¬ IsTooManyOf spec env what g) → (g : SpecFault) → ¬ IsTooManyOf spec newer what g
    not-too-many what none g (is, e) = none g (too-many what is, e)

    none-later : HasNone (table_faults spec env) → HasNone (table_faults spec newer)
    none-later none = (
      at-place (λ at. fault.UnknownSymbol at) (IsUnknown spec env) (IsUnknown spec newer) unknown none.0,
      (
        at-place (λ at. fault.DuplicateRule at) (IsDuplicate spec env) (IsDuplicate spec newer) duplicate none.1.0,
        (
          (λ g is. none.1.1.0 g (root-not-one g is)),
          (
            at-place (λ at. fault.KindClash at) (IsKindClash spec env) (IsKindClash spec newer) clash none.1.1.1.0,
            (
              at-place (λ at. fault.BadIndex at) (IsBadIndex spec env) (IsBadIndex spec newer) bad-index none.1.1.1.1.0,
              (
                at-place (λ at. fault.DoubleComputation at) (IsDouble spec env) (IsDouble spec newer) double none.1.1.1.1.1.0,
                (
                  at-place (λ at. fault.BadOut at) (IsBadOut spec env) (IsBadOut spec newer) bad-out none.1.1.1.1.1.1.0,
                  (
                    not-too-many many.Symbols none.1.1.1.1.1.1.1.0,
                    (
                      not-too-many many.Rules none.1.1.1.1.1.1.1.1.0,
                      (
                        not-too-many many.Elements none.1.1.1.1.1.1.1.1.1.0,
                        (
                          not-too-many many.Computations none.1.1.1.1.1.1.1.1.1.1.0,
                          tt,
                        ),
                      ),
                    ),
                  ),
                ),
              ),
            ),
          ),
        ),
      ),
    )

-- ids keep their texts
pub no-later-faults : (spec : Spec) (env newer : Environment) → HasIds env.texts spec → Gains env.texts newer.texts → HasNone (table_faults spec env) → HasNone (table_faults spec newer)
no-later-faults spec env newer ids gains none = none-later spec env newer (λ x m.
    let (t, at) = place-below env.texts x.id.0 (ids.names x m) in
    later-text env.texts env x.id.0 t (no-more env.texts) at ∙ sym (later-text env.texts newer x.id.0 t gains at)) none
