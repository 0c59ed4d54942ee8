use Rattle.std.specs.Prelude.{◌≡◌, ℕ, pos, Some, None, refl}
use Rattle.std.proofs.Common.{arith, sym, ◌∙◌, ap, inl, inr}
use Rattle.lido_base.specs.declared.kinds.Kind.TheVariants.{Synthesized, Inherited}
use Rattle.lido_base.specs.declared.value.ValueType.TheVariants as type
use Rattle.lido_base.specs.Operations.{kept}
use Rattle.lido_base.specs.Plain.{Plain, Int}
use Rattle.lido_syntax.specs.declared.spec.Comp.{Comp}
use Rattle.lido_syntax.specs.declared.spec.RuleItem.{RuleItem}
use Rattle.lido_syntax.specs.Attributes.{Has, HasKind, HasType}
use Rattle.lido_syntax.specs.Attributes as attributes
use Rattle.lido_syntax.specs.Assignment.{Assignment, Attribute}
use Rattle.lido_syntax.specs.Computation as goals
use Rattle.lido_syntax.specs.Computation.{by_rule, of_rule, HasComputation}
use Rattle.lido_syntax.specs.Completeness.{IsComplete}
use Rattle.lido_syntax.specs.Nodes.{IsAt, HasSymbol, Computes}
use Rattle.lido_syntax.specs.Nodes as nodes
use Rattle.lido_syntax.specs.Chains.{IsComputed, value_by}
use Rattle.lido_syntax.specs.Attribution.{IsAttribution}
use Rattle.lido_syntax.specs.Sets.{Sets}
use Rattle.trials_of_syntax.specs.TwoSides.{spec, tree, decl, three, four, top_rule, x_rule, X, i}
use Rattle.trials_of_syntax.specs.Writing.{env, name}
use Rattle.trials_of_syntax.proofs.RulesOnly.{not_typed_by_symbol}
use Rattle.trials_of_syntax.proofs.whole.two_sides.Goals as goal

has_x : Has spec X i
has_x = inl (attributes.by_name four (name X) None (inl (x_rule, (1, omega arith, refl), (0, omega arith, refl))) (name i, (0, omega arith, refl), refl, (λ h. cc)) refl)

kind_x : HasKind spec X i Inherited
kind_x = attributes.by_declaration (inr (decl, (0, omega arith, refl), refl, refl))

type_x : HasType spec X i type.Int
type_x = attributes.by_attr (not_typed_by_symbol spec.rules spec.attrs spec.terms spec.chains X i) (decl, (0, omega arith, refl), refl, refl)

four_computed : HasComputation spec x_rule 0 X (goals.Synthesized i)
four_computed = (by_rule, four, of_rule (refl, tt) ((0, omega arith, refl), (refl, refl, (λ h. cc))))

not_complete : ¬ IsComplete spec
not_complete complete = let wrong = complete.one_kind X i Synthesized Inherited ((complete.synthesized x_rule i (1, omega arith, refl) has_x).1 four_computed) kind_x in cc

first : HasSymbol spec tree 1 X
first = (x_rule, (1, refl, refl), refl)

left : Computes spec tree 1 i 1 by_rule four
left = nodes.synthesized (x_rule, (1, refl, refl), of_rule (refl, tt) ((0, omega arith, refl), (refl, refl, (λ h. cc))))

right : Computes spec tree 1 i 0 by_rule three
right = nodes.inherited_of_rule 0 1 X top_rule refl (0, refl, refl) first (of_rule (refl, tt) ((0, omega arith, refl), (refl, refl)))

module _ (sets : Sets spec) (A : Assignment) where
  value_of : (n : ℕ) (c : Comp) (w v : Plain) → ((r : RuleItem) (tail : ℕ → Plain) → value_by spec sets env tree A tail n by_rule r c ≡ w) → IsComputed spec sets env tree A n by_rule c v → v ≡ w
  value_of n c w v h (r, tail, at, tails, e) = e ∙ h r tail

  none : ¬ IsAttribution spec sets env tree A
  none a = go (a.values 1 i X 1 type.Int by_rule four first has_x type_x left) (a.values 1 i X 0 type.Int by_rule three first has_x type_x right)
    where
      go : ((v : Plain) × IsComputed spec sets env tree A 1 by_rule four v × (A 1 (Attribute i) ≡ Some (kept type.Int v)))
          → ¬ ((v : Plain) × IsComputed spec sets env tree A 0 by_rule three v × (A 1 (Attribute i) ≡ Some (kept type.Int v)))
      go (v, cv, ev) (w, cw, ew) =
          let is4 : v ≡ Int (pos 4) = value_of 1 four (Int (pos 4)) v (λ r tail. refl) cv in
          let is3 : w ≡ Int (pos 3) = value_of 0 three (Int (pos 3)) w (λ r tail. refl) cw in
          let wrong : Some (Int (pos 4)) ≡ Some (Int (pos 3)) = sym (ev ∙ ap (λ v. Some (kept type.Int v)) is4) ∙ (ew ∙ ap (λ v. Some (kept type.Int v)) is3) in cc

pub returns : goal.returns
returns c = record { not_complete = not_complete; no_values = none }
