-- The symbols of a text stand among those that are numbered.
use Rattle.std.specs.Prelude.{Contains, flat_map, map, nat_eq}
use Rattle.std.proofs.Common.{ℕ, ◌⊎◌, inl, inr, List, ◌++◌, sym, subst, eqb-true}
use Rattle.std.proofs.lemmas.List.Elements.{Contains-append_left, Contains-append_right}
use Rattle.lido_base.specs.Environment.{Environment}
use Rattle.lido_base.proofs.Lists.{map-contains, flat-contains}
use Rattle.lido_syntax.specs.declared.spec.Spec.{Spec}
use Rattle.lido_syntax.specs.declared.spec.Name.{Name}
use Rattle.lido_syntax.specs.declared.spec.Typed1.{Typed1}
use Rattle.lido_syntax.specs.declared.spec.SymbolItem.{SymbolItem}
use Rattle.lido_syntax.specs.Production.{name_of}
use Rattle.lido_symbols.specs.Numbers.{AreNumbered}
use Rattle.lido_symbols.specs.Uses.{symbol_uses, symbols_of_rule, symbols_of_item, symbols_of_computation, is_coordinate_of_symbol, with_place}
use Rattle.symbol_attributes.specs.Inheritance.{AreNumberedIn}

module _ (spec : Spec) (env : Environment) (names : List ℕ) (numbered : AreNumbered nat_eq (symbol_uses spec env) names) where
  in-item : (item : SymbolItem) (x : Name) → Contains item.names x ⊎ Contains item.inherits x → Contains (symbols_of_item spec env item) x
  in-item item x m = Contains-append_left (item.names ++ item.inherits) (flat_map (symbols_of_computation (is_coordinate_of_symbol env)) item.body) x
      (elim m [ inl n ↦ Contains-append_left item.names item.inherits x n | inr n ↦ Contains-append_right item.names item.inherits x n ])

  pub are-numbered-in : AreNumberedIn names spec.symbols
  are-numbered-in item x mi m =
      let of_rules : List Name = flat_map (symbols_of_rule spec env) spec.rules in
      let of_items : List Name = flat_map (symbols_of_item spec env) spec.symbols in
      let of_terms : List Name = map (λ (t : Typed1). t.name) spec.terms in
      let there : Contains (of_rules ++ of_items ++ of_terms) x = Contains-append_left (of_rules ++ of_items) of_terms x
      (Contains-append_right of_rules of_items x (flat-contains (symbols_of_item spec env) spec.symbols item x mi (in-item item x m))) in
      let (l, ml, e) = numbered.all x.at (name_of x) (map-contains with_place (of_rules ++ of_items ++ of_terms) x there) in
      subst (λ z. Contains names z) (sym (eqb-true (name_of x) l e)) ml
