-- One computation at most is in force.
use Rattle.std.specs.Prelude.{Contains}
use Rattle.std.proofs.Common.{◌≡◌, ℕ, refl, subst}
use Rattle.lido_syntax.specs.declared.spec.Spec.{Spec}
use Rattle.lido_syntax.specs.declared.spec.RuleItem.{RuleItem}
use Rattle.lido_syntax.specs.declared.spec.Comp.{Comp}
use Rattle.lido_syntax.specs.Computation.{Goal, Holder, InForce, of_rule, of_symbol, of_class, InSymbol}
use Rattle.lido_syntax.specs.Completeness.{IsSingle}

pub one_in_force : (spec : Spec) → IsSingle spec → (r : RuleItem) → Contains spec.rules r → (k s : ℕ) (goal : Goal) (g h : Holder) (c d : Comp)
    → InForce spec r k s goal g c → InForce spec r k s goal h d → (g ≡ h) × (c ≡ d)
one_in_force spec single r m k s goal g h c d (of_rule at a) (of_rule at' b) = (refl, single.in_rule r k goal c d m a b)
one_in_force spec single r m k s goal g h c d (of_rule at a) (of_symbol at' none b) = absurd (none (c, a))
one_in_force spec single r m k s goal g h c d (of_rule at a) (of_class class at' none own left only b) = absurd (none (c, a))
one_in_force spec single r m k s goal g h c d (of_symbol at none a) (of_rule at' b) = absurd (none (d, b))
one_in_force spec single r m k s goal g h c d (of_symbol at none a) (of_symbol at' too b) = (refl, single.in_symbol s goal c d a b)
one_in_force spec single r m k s goal g h c d (of_symbol at none a) (of_class class at' too own left only b) = absurd (own (c, a))
one_in_force spec single r m k s goal g h c d (of_class class at none own left only a) (of_rule at' b) = absurd (none (d, b))
one_in_force spec single r m k s goal g h c d (of_class class at none own left only a) (of_symbol at' too b) = absurd (own (d, b))
one_in_force spec single r m k s goal g h c d (of_class class at none own left only a) (of_class other at' none' own' left' only' b) =
    (refl, single.in_symbol class goal c d a (subst (λ x. InSymbol spec x goal d) (only other left') b))
