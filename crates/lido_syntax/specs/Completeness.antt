-- Complete specifications: each attribute has one computation (after Waite and Goos' complete attribute grammars).
use Rattle.std.specs.Prelude.{◌≡◌, ℕ, suc, ◌↔◌, Contains}
use Rattle.lido_base.specs.declared.kinds.Kind.{Kind}
use Rattle.lido_base.specs.declared.kinds.Kind.TheVariants as kind
use Rattle.lido_base.specs.declared.value.ValueType.{ValueType}
use Rattle.lido_syntax.specs.declared.spec.Spec.{Spec}
use Rattle.lido_syntax.specs.declared.spec.RuleItem.{RuleItem}
use Rattle.lido_syntax.specs.declared.spec.Comp.{Comp}
use Rattle.lido_syntax.specs.Production.{left_of, CanStandAt}
use Rattle.lido_syntax.specs.Symbols.{IsRoot}
use Rattle.lido_syntax.specs.Attributes.{Has, HasKind, HasType}
use Rattle.lido_syntax.specs.Computation.{Goal, Synthesized, Inherited, InRule, InSymbol, HasComputation}

module _ (spec : Spec) where
  -- no rule, and no symbol in its bodies, has two computations of one goal
  pub record IsSingle : Type 0 where
    pub in_rule : (r : RuleItem) (k : ℕ) (goal : Goal) (c d : Comp) → Contains spec.rules r → InRule spec r k goal c → InRule spec r k goal d → c ≡ d
    pub in_symbol : (s : ℕ) (goal : Goal) (c d : Comp) → InSymbol spec s goal c → InSymbol spec s goal d → c ≡ d

  -- Each attribute has one kind, one type and one computation, on the side of its kind and on no other: in each rule the
  -- synthesized ones of the left side are computed, and the inherited ones of the right side. The root has no inherited ones.
  -- This alone doesn't make a specification accepted: a cycle, a chain without a start or a wrong type is a fault too.
  pub record IsComplete : Type 0 where
    pub single : IsSingle
    pub one_kind : (s a : ℕ) (k l : Kind) → HasKind spec s a k → HasKind spec s a l → k ≡ l
    pub one_type : (s a : ℕ) (x y : ValueType) → HasType spec s a x → HasType spec s a y → x ≡ y
    pub synthesized : (r : RuleItem) (a : ℕ) → Contains spec.rules r → Has spec (left_of r) a → HasKind spec (left_of r) a kind.Synthesized ↔ HasComputation spec r 0 (left_of r) (Synthesized a)
    pub inherited : (r : RuleItem) (k s a : ℕ) → Contains spec.rules r → CanStandAt r (suc k) s → Has spec s a → HasKind spec s a kind.Inherited ↔ HasComputation spec r (suc k) s (Inherited a)
    pub root : (s a : ℕ) → IsRoot spec s → Has spec s a → ¬ HasKind spec s a kind.Inherited
