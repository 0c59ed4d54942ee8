use Rattle.std.specs.Prelude.{◌≡◌, ℕ, refl, Some, Contains, []}
use Rattle.std.proofs.Common.{arith, inl, inr}
use Rattle.lido_base.specs.declared.kinds.Kind.{Kind}
use Rattle.lido_base.specs.declared.value.ValueType.{ValueType}
use Rattle.lido_base.specs.declared.value.ValueType.TheVariants as type
use Rattle.lido_base.specs.Reach.{source}
use Rattle.lido_syntax.specs.declared.spec.Decl.{Decl}
use Rattle.lido_syntax.specs.declared.spec.SymbolItem.{SymbolItem}
use Rattle.lido_syntax.specs.declared.spec.Place.TheVariants as place
use Rattle.lido_syntax.specs.Attributes as attributes
use Rattle.lido_syntax.specs.Attributes.{Has, HasKind, HasType, InBody, IsUse, IsDeclared, IsDeclaredKind, IsTypedBySymbol}
use Rattle.trials_of_syntax.specs.Classes.{Z, C, v, synt, class_c, class_symbol_rule}
use Rattle.trials_of_syntax.specs.Writing.{name, declaration}
use Rattle.trials_of_syntax.proofs.Members.{every}
use Rattle.trials_of_syntax.proofs.symbol_computations.attribute_of_a_class.Goals as goal

in_class : InBody class_symbol_rule C (synt 0 1)
in_class = (class_c, (0, omega arith, refl), refl, (0, omega arith, refl))

named : IsUse class_symbol_rule (synt 0 1) place.Synt v
named = (name v, (0, omega arith, refl), refl, (λ h. cc))

-- no SYMBOL item declares an attribute
undeclared : (s a : ℕ) (d : Decl) → ¬ IsDeclared class_symbol_rule s a d
undeclared s a d (item, m, n, k, e) = every (λ (item : SymbolItem). ¬ Contains item.decls d) class_symbol_rule.symbols (none, (none, (none, (none, tt)))) item m k
  where
    none : ¬ Contains {X = Decl} [] d
    none h = omega (arith, h.1)

no_kind : (other : Kind) → ¬ IsDeclaredKind class_symbol_rule Z v other
no_kind other (inl (inl (d, h, e))) = undeclared Z v d h
no_kind other (inl (inr (class, i, (d, h, e)))) = undeclared class v d h
no_kind other (inr (d, m, e, f)) = every (λ (d : Decl). ¬ (d.kind ≡ Some other)) class_symbol_rule.attrs ((λ e. cc), tt) d m f

no_type : (other : ValueType) → ¬ IsTypedBySymbol class_symbol_rule Z v other
no_type other (inl (d, h, e)) = undeclared Z v d h
no_type other (inr (class, i, (d, h, e))) = undeclared class v d h

pub returns : goal.returns
returns c = record {
  has = inr (C, source refl, attributes.in_body (synt 0 1) place.Synt in_class named tt);
  kind = attributes.by_side no_kind (inr (C, source refl, attributes.synt (synt 0 1) in_class named));
  type_ = attributes.by_attr no_type (declaration v type.Int, (0, omega arith, refl), refl, refl);
}
