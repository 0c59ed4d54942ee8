-- Who has a number.
use Rattle.std.specs.Prelude.{Contains, IsTrue, ℤ, nat_eq, ◌&&◌, flat_map, map}
use Rattle.std.proofs.Common.{◌≡◌, ℕ, inl, inr, List, [], ◌++◌, Option, sym, subst, eqb-true}
use Rattle.std.proofs.lemmas.List.Elements.{Contains-append_left, Contains-append_right}
use Rattle.std.proofs.lemmas.List.Folds.{Any-from_list_any}
use Rattle.lido_base.specs.Environment.{Environment}
use Rattle.lido_base.specs.Reach.{source, edge}
use Rattle.lido_base.specs.Tree.{contains}
use Rattle.lido_base.proofs.Lists.{contains-here, contains-map, map-contains, flat-contains}
use Rattle.lido_base.proofs.TreeLemmas.{contains-test, both}
use Rattle.lido_syntax.specs.declared.spec.Spec.{Spec}
use Rattle.lido_syntax.specs.declared.spec.Name.{Name}
use Rattle.lido_syntax.specs.declared.spec.Comp.{Comp}
use Rattle.lido_syntax.specs.declared.spec.Typed1.{Typed1}
use Rattle.lido_syntax.specs.declared.spec.RuleItem.{RuleItem}
use Rattle.lido_syntax.specs.declared.spec.SymbolItem.{SymbolItem}
use Rattle.lido_syntax.specs.declared.spec.Target.{Target}
use Rattle.lido_syntax.specs.declared.spec.Target.TheVariants as target
use Rattle.lido_syntax.specs.declared.spec.Place.TheVariants as place
use Rattle.lido_syntax.specs.Parts.{leaves_of}
use Rattle.lido_syntax.specs.Production.{name_of}
use Rattle.lido_syntax.specs.Sets.{Inherits, inherits_directly, names_of}
use Rattle.lido_symbols.specs.Numbers.{AreNumbered}
use Rattle.lido_symbols.specs.Uses.{symbol_uses, symbols_of_rule, symbols_of_item, symbols_of_computation, symbols_of_target, symbols_in, production_names, is_coordinate_of_rule, with_place}
use Rattle.symbol_attributes.specs.Inheritance.{AreNumberedIn}
use Rattle.symbol_attributes.proofs.LawLemmas.{are-numbered-in}
use Rattle.clash_pairs.specs.Numbered.{AreAllNumbered}

module _ (spec : Spec) (names : List ℕ) (known : AreNumberedIn names spec.symbols) where
  pub item-numbered : (s : ℕ) (item : SymbolItem) → Contains spec.symbols item → IsTrue (contains s (names_of item)) → Contains names s
  item-numbered s item mi h = let (y, my, e) = contains-map name_of item.names s (contains-test s (names_of item) h) in subst (λ z. Contains names z) e (known item y mi (inl my))

  directly-numbered : (s class : ℕ) → IsTrue (inherits_directly spec s class) → Contains names s × Contains names class
  directly-numbered s class h =
      let (k, item, below, at, is) = Any-from_list_any (λ (item : SymbolItem). contains s (names_of item) && contains class (map name_of item.inherits)) spec.symbols h in
      let (own, there) = both (contains s (names_of item)) (contains class (map name_of item.inherits)) is in
      let (y, m, e) = contains-map name_of item.inherits class (contains-test class (map name_of item.inherits) there) in
      (item-numbered s item (k, below, at) own, subst (λ z. Contains names z) e (known item y (k, below, at) (inr m)))

  pub heir-numbered : (s class : ℕ) → Inherits spec s class → Contains names s
  heir-numbered s class (source h) = (directly-numbered s class h).0
  heir-numbered s class (edge {c = c} h later) = (directly-numbered s c h).0

  pub class-numbered : (class s : ℕ) → Inherits spec s class → Contains names class
  class-numbered class s (source h) = (directly-numbered s class h).1
  class-numbered class s (edge {c = c} h later) = class-numbered class c later

pub all-numbered : (spec : Spec) (env : Environment) (names : List ℕ) → AreNumbered nat_eq (symbol_uses spec env) names → AreAllNumbered spec names
all-numbered spec env names numbered = record { items = are-numbered-in spec env names numbered; targets = targets }
  where
    targets : (r : RuleItem) (c : Comp) (x : Name) (i : Option ℤ) (a : Name) → Contains spec.rules r → Contains r.body c → c.target ≡ target.Attr (place.Named x i) a → Contains names (name_of x)
    targets r c x i a mr mc e =
        let of_rules : List Name = flat_map (symbols_of_rule spec env) spec.rules in
        let of_items : List Name = flat_map (symbols_of_item spec env) spec.symbols in
        let of_terms : List Name = map (λ (t : Typed1). t.name) spec.terms in
        let of_comp = symbols_of_computation (is_coordinate_of_rule env r) in
        let here : Contains (of_comp c) x = Contains-append_left (symbols_of_target c.target) (flat_map (symbols_in (is_coordinate_of_rule env r)) (leaves_of c)) x
        (subst (λ (t : Target). Contains (symbols_of_target t) x) (sym e) (contains-here x [])) in
        let there : Contains (of_rules ++ of_items ++ of_terms) x = Contains-append_left (of_rules ++ of_items) of_terms x
        (Contains-append_left of_rules of_items x (flat-contains (symbols_of_rule spec env) spec.rules r x mr (Contains-append_right (production_names r) (flat_map of_comp r.body) x (flat-contains of_comp r.body c x mc here)))) in
        let (l, ml, f) = numbered.all x.at (name_of x) (map-contains with_place (of_rules ++ of_items ++ of_terms) x there) in
        subst (λ z. Contains names z) (sym (eqb-true (name_of x) l f)) ml
