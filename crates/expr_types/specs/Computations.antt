-- Types of computations in force, as a judgement.
use Rattle.std.specs.Prelude.{◌≡◌, ℕ, ◌⊎◌, All, Some, Contains}
use Rattle.lido_base.specs.declared.value.ValueType.{ValueType}
use Rattle.lido_base.specs.declared.value.ValueType.TheVariants as type
use Rattle.lido_base.specs.Environment.{Environment}
use Rattle.lido_syntax.specs.declared.spec.Spec.{Spec}
use Rattle.lido_syntax.specs.declared.spec.Comp.{Comp}
use Rattle.lido_syntax.specs.declared.spec.RuleItem.{RuleItem}
use Rattle.lido_syntax.specs.declared.spec.Target.{Target}
use Rattle.lido_syntax.specs.declared.spec.Target.TheVariants as target
use Rattle.lido_syntax.specs.Symbols.{IsTypedChain}
use Rattle.lido_syntax.specs.Attributes.{HasType}
use Rattle.lido_syntax.specs.Sets.{Sets}
use Rattle.lido_syntax.specs.Computation.{Goal, Synthesized, Inherited, Start, Behind, Output, Message, Holder, InForce}
use Rattle.expr_types.specs.Typing.{HasExprType}

module _ (spec : Spec) (own : ℕ) where
  -- an attribute takes its own type, and a VOID one any
  abbrev pub AttributeTakes : ℕ → ValueType → Type 0
  AttributeTakes a ty = (wanted : ValueType) × HasType spec own a wanted × ((wanted ≡ type.Void) ⊎ (ty ≡ wanted))

  -- what a goal of the symbol takes: a chain its type alone, a VOID chain too; PTGOut a text; a message a string
  abbrev pub GoalTakes : Goal → ValueType → Type 0
  GoalTakes (Synthesized a) ty = AttributeTakes a ty
  GoalTakes (Inherited a) ty = AttributeTakes a ty
  GoalTakes (Start c) ty = IsTypedChain spec c ty
  GoalTakes (Behind c) ty = IsTypedChain spec c ty
  GoalTakes Output ty = ty ≡ type.Text
  GoalTakes (Message j) ty = ty ≡ type.Str

module _ (spec : Spec) (sets : Sets spec) (env : Environment) (holder : Holder) (r : RuleItem) (own : ℕ) where
  -- a message's condition is a bool
  abbrev pub IsConditionTyped : Target → Type 0
  IsConditionTyped (target.Message severity (Some e)) = HasExprType spec sets env holder r own e type.Bool
  IsConditionTyped _ = Unit {0}

  -- the value has a type that the goal takes, and each dependency behind the arrow has one
  pub record IsTyped (goal : Goal) (c : Comp) : Type 0 where
    pub condition : IsConditionTyped c.target
    pub ty : ValueType
    pub value : HasExprType spec sets env holder r own c.value ty
    pub takes : GoalTakes spec own goal ty
    pub after : All (λ e. (other : ValueType) × HasExprType spec sets env holder r own e other) c.after

-- every computation in force is typed
abbrev pub AreTyped : (spec : Spec) → Sets spec → Environment → Type 0
AreTyped spec sets env = (r : RuleItem) → Contains spec.rules r → (k s : ℕ) (goal : Goal) (h : Holder) (c : Comp)
    → InForce spec r k s goal h c → IsTyped spec sets env h r s goal c
