-- No class is a terminal, where there is no fault of the tables.
use Rattle.std.specs.Prelude.{Contains, flat_map, filter_map}
use Rattle.std.proofs.Common.{◌≡◌, ℕ, inl, inr, List, Some, refl, sym, subst}
use Rattle.std.proofs.lemmas.Option.{none-some, same_Some}
use Rattle.lido_base.specs.Environment.{Environment}
use Rattle.lido_base.specs.Faults.{HasNone}
use Rattle.lido_base.specs.declared.value.ValueType.{ValueType}
use Rattle.lido_base.proofs.FaultsLemmas.{at_place-none}
use Rattle.lido_base.proofs.Lists.{contains-later, contains-flat}
use Rattle.lido_base.proofs.TreeLemmas.{contains-test}
use Rattle.lido_syntax.specs.declared.spec.Spec.{Spec}
use Rattle.lido_syntax.specs.declared.spec.Name.{Name}
use Rattle.lido_syntax.specs.declared.spec.Element.{Element}
use Rattle.lido_syntax.specs.declared.spec.Element.TheVariants.{Symbol, Literal}
use Rattle.lido_syntax.specs.declared.fault.SpecFault.TheVariants as fault
use Rattle.lido_syntax.specs.Production.{name_of, right_of, symbol_of}
use Rattle.lido_syntax.specs.Symbols.{IsTerminal}
use Rattle.lido_symbols.specs.Classes.{IsClass}
use Rattle.lido_symbols.specs.Uses.{element_name}
use Rattle.kind_clashes.specs.KindClash.{IsKindClash, class_in_production, faulty_term}
use Rattle.table_faults.specs.Faults.{table_faults}
use Rattle.need_graphs.proofs.ListLemmas.{contains-filtered, filtered-contains}

-- the name of a symbol of a right side
element-named : (es : List Element) (s : ℕ) → Contains (filter_map symbol_of es) s → (x : Name) × Contains (filter_map element_name es) x × (name_of x ≡ s)
element-named es s m = let (e, among, made) = contains-filtered symbol_of es s m in by e among made
  where
    by : (e : Element) → Contains es e → symbol_of e ≡ Some s → (x : Name) × Contains (filter_map element_name es) x × (name_of x ≡ s)
    by (Symbol n) among made = (n, filtered-contains element_name es (Symbol n) n among refl, same_Some _ _ made)
    by (Literal t) among made = absurd (none-some s made)

module _ (spec : Spec) (env : Environment) (none : HasNone (table_faults spec env)) where
  no-clash : (at : ℕ) → ¬ IsKindClash spec env at
  no-clash = at_place-none (λ at. fault.KindClash at) (IsKindClash spec env) none.1.1.1.0

  pub class-bare : (s : ℕ) (ty : ValueType) → IsClass spec s → ¬ IsTerminal spec s ty
  class-bare s ty class (other, inl (d, declared, e, of)) = no-clash d.name.at (faulty_term d declared refl (inl (subst (IsClass spec) (sym e) class)))
  class-bare s ty class (other, inr (right, undeclared, of)) =
      let (r, there, here) = contains-flat right_of spec.rules s (contains-test s (flat_map right_of spec.rules) right) in
      let (x, among, e) = element-named r.right s here in
      no-clash x.at (class_in_production r x there (contains-later r.left x (filter_map element_name r.right) among) (subst (IsClass spec) (sym e) class) refl)
