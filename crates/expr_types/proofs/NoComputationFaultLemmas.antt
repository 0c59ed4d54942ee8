-- A computation that is typed has no fault.
use Rattle.std.specs.Prelude.{◌≡◌, ℕ, None, Some, List, [], ◌∷◌, Contains, refl}
use Rattle.std.proofs.Common.{subst, inl, inr}
use Rattle.std.proofs.lemmas.List.Elements.{All-contains}
use Rattle.lido_base.specs.declared.value.ValueType.{ValueType}
use Rattle.lido_base.specs.declared.value.ValueType.TheVariants as type
use Rattle.lido_base.specs.Environment.{Environment}
use Rattle.lido_base.proofs.Lists.{contains-here, contains-later}
use Rattle.lido_syntax.specs.declared.fault.SpecFault.{SpecFault}
use Rattle.lido_syntax.specs.declared.spec.Spec.{Spec}
use Rattle.lido_syntax.specs.declared.spec.Comp.{Comp}
use Rattle.lido_syntax.specs.declared.spec.RuleItem.{RuleItem}
use Rattle.lido_syntax.specs.declared.spec.Expr.{Expr}
use Rattle.lido_syntax.specs.declared.spec.Target.{Target}
use Rattle.lido_syntax.specs.declared.spec.Target.TheVariants as target
use Rattle.lido_syntax.specs.Sets.{Sets}
use Rattle.lido_syntax.specs.Computation.{Goal, Holder}
use Rattle.leaf_types.specs.Single.{AreSingleTypes}
use Rattle.expr_types.specs.Typing.{HasExprType}
use Rattle.expr_types.specs.Computations.{GoalTakes, IsTyped, IsConditionTyped}
use Rattle.expr_types.specs.Faults.{IsFirstIn, IsRefused, IsConditionFault, IsComputationFault}
use Rattle.expr_types.specs.Faults as faults
use Rattle.expr_types.proofs.TypingLemmas.{one-type}
use Rattle.expr_types.proofs.NoFaultLemmas.{no-fault}

module _ (spec : Spec) (single : AreSingleTypes spec) (sets : Sets spec) (env : Environment) (holder : Holder) (r : RuleItem) (own : ℕ) where
  refused : (Takes : ValueType → Type 0) (e : Expr) (ty : ValueType) (f : SpecFault) → HasExprType spec sets env holder r own e ty → Takes ty → IsRefused spec sets env holder r own Takes e f → ⊥
  refused Takes e ty f has takes (faults.within x) = no-fault spec single sets env holder r own e ty f has x
  refused Takes e ty f has takes (faults.not_taken other h not at) = not (subst Takes (one-type spec single sets env holder r own e ty other has h) takes)

  condition : (t : Target) (f : SpecFault) → IsConditionTyped spec sets env holder r own t → IsConditionFault spec sets env holder r own t f → ⊥
  condition (target.Attr p a) f typed x = absurd x
  condition (target.Start a) f typed x = absurd x
  condition target.Out f typed x = absurd x
  condition (target.Message severity None) f typed x = absurd x
  condition (target.Message severity (Some e)) f typed x = refused (λ ty. ty ≡ type.Bool) e type.Bool f typed refl x

  abbrev HasSome : Expr → Type 0
  HasSome e = (ty : ValueType) × HasExprType spec sets env holder r own e ty

  behind : (es : List Expr) (f : SpecFault) → ((e : Expr) → Contains es e → HasSome e) → IsFirstIn spec sets env holder r own es f → ⊥
  behind [] f typed x = absurd x
  behind (e ∷ es) f typed (inl x) = let has = typed e (contains-here e es) in no-fault spec single sets env holder r own e has.0 f has.1 x
  behind (e ∷ es) f typed (inr x) = behind es f (λ y m. typed y (contains-later e y es m)) x.2

  pub no-computation-fault : (goal : Goal) (c : Comp) (f : SpecFault) → IsTyped spec sets env holder r own goal c → IsComputationFault spec sets env holder r own goal c f → ⊥
  no-computation-fault goal c f typed (faults.of_condition x) = condition c.target f typed.condition x
  no-computation-fault goal c f typed (faults.of_value ok x) = refused (GoalTakes spec own goal) c.value typed.ty f typed.value typed.takes x
  no-computation-fault goal c f typed (faults.of_after ty ok has takes x) = behind c.after f (λ e m. All-contains HasSome c.after e typed.after m) x
