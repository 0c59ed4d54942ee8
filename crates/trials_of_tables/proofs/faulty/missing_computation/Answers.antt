use Rattle.std.specs.Prelude.{ℕ, Contains, refl}
use Rattle.std.proofs.Common.{arith, inl, inr}
use Rattle.lido_syntax.specs.declared.spec.Comp.{Comp}
use Rattle.lido_syntax.specs.declared.spec.Decl.{Decl}
use Rattle.lido_syntax.specs.declared.spec.SymbolItem.{SymbolItem}
use Rattle.lido_syntax.specs.Attributes.{InBody, IsDeclared, Has, HasKind}
use Rattle.lido_syntax.specs.Attributes as attributes
use Rattle.lido_base.specs.declared.kinds.Kind.TheVariants as kind
use Rattle.lido_syntax.specs.Computation.{Goal, Synthesized, Holder, InForce, of_rule, of_symbol, of_class}
use Rattle.trials_of_syntax.proofs.Members.{every}
use Rattle.rule_tables.specs.InForceFaults.{IsMissing}
use Rattle.rule_tables.specs.InForceFaults as faults
use Rattle.trials_of_tables.specs.Faulty.{missing_computation, declaring_item, empty_rule, S, a}
use Rattle.trials_of_tables.proofs.faulty.missing_computation.Goals as goal

no_body : (s : ℕ) (c : Comp) → InBody missing_computation s c → ⊥
no_body s c (item, m, named, k) = every (λ (item : SymbolItem). Contains item.body c → ⊥) missing_computation.symbols ((λ k. omega (arith, k.1)), tt) item m k

nothing : (s : ℕ) (g : Goal) (h : Holder) (c : Comp) → InForce missing_computation empty_rule 0 s g h c → ⊥
nothing s g h c (of_rule is in_rule) = omega (arith, in_rule.0.1)
nothing s g h c (of_symbol is none in_symbol) = no_body s c in_symbol.0
nothing s g h c (of_class class is none own left one in_symbol) = no_body class c in_symbol.0

abbrev the_declaration : Decl
the_declaration = record { attr = record { at = 10; id = record { 0 = a } }; ty = Rattle.lido_base.specs.declared.value.ValueType.TheVariants.Int; kind = Rattle.std.specs.Prelude.Some kind.Synthesized }

is_declared : IsDeclared missing_computation S a the_declaration
is_declared = (declaring_item, (0, omega arith, refl), refl, (0, omega arith, refl), refl)

it_has : Has missing_computation S a
it_has = inl (attributes.declared the_declaration is_declared)

its_kind : HasKind missing_computation S a kind.Synthesized
its_kind = attributes.by_declaration (inl (inl (the_declaration, is_declared, refl)))

pub returns : goal.returns
returns c sets = record {
  i = 0;
  k = 0;
  a = a;
  rule = empty_rule;
  missing = faults.IsMissing.left empty_rule a refl it_has its_kind (λ h. nothing S (Synthesized a) h.0 h.1 h.2);
  first_occurrence = λ j l b h. none_before j l;
  first_attribute = λ b h. omega arith;
  of_rule = refl;
  fault = refl;
}
  where
    none_before : (j l : ℕ) → ¬ faults.IsBefore (j, l) (0, 0)
    none_before j l (inl h) = omega (arith, h)
    none_before j l (inr h) = omega (arith, h.1)
