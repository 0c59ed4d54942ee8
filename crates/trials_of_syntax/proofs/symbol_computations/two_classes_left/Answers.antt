use Rattle.std.specs.Prelude.{◌≡◌, ℕ, ◌⊎◌, [], ◌∷◌, refl, true}
use Rattle.std.proofs.Common.{arith, sym, inl, inr}
use Rattle.lido_base.specs.Reach.{source}
use Rattle.lido_syntax.specs.declared.spec.Comp.{Comp}
use Rattle.lido_syntax.specs.Sets.{Inherits}
use Rattle.lido_syntax.specs.Computation.{Synthesized, Holder, of_rule, of_symbol, of_class, IsLeft, HasInSymbol}
use Rattle.trials_of_syntax.specs.Classes.{Z, C, D, v, synt, class_c, z_rule, two_classes, Forces}
use Rattle.trials_of_syntax.specs.Writing.{symbol_item}
use Rattle.trials_of_syntax.proofs.Members.{one_of, one_of_two, apart}
use Rattle.trials_of_syntax.proofs.Classes.{inherits_within, in_bodies}
use Rattle.trials_of_syntax.proofs.symbol_computations.two_classes_left.Goals as goal

-- Z inherits C and D
abbrev Above : ℕ → ℕ → Type 0
Above s class = (s ≡ Z) × ((class ≡ C) ⊎ (class ≡ D))

join : (s class above : ℕ) → Above s class → Above class above → Above s above
join s class above (a, inl b) (c, d) = absurd (apart C Z class b c refl)
join s class above (a, inr b) (c, d) = absurd (apart D Z class b c refl)

above : (s class : ℕ) → Inherits two_classes s class → Above s class
above = inherits_within two_classes Above
    ((λ s class a b. cc), ((λ s class a b. cc), ((λ s class a b. (one_of s Z a, one_of_two class C D b)), tt)))
    join

not_above : (other class : ℕ) → Above Z other → ¬ Above other class
not_above other class (a, inl b) (c, d) = apart C Z other b c refl
not_above other class (a, inr b) (c, d) = apart D Z other b c refl

left : (class : ℕ) → Inherits two_classes Z class → HasInSymbol two_classes class (Synthesized v) → IsLeft two_classes Z (Synthesized v) class
left class h computes = record {
  inherited = h;
  computes = computes;
  not_dropped = λ other k _ i. not_above other class (above Z other k) (above other class i);
}

c-left : IsLeft two_classes Z (Synthesized v) C
c-left = left C (source refl) (synt 0 1, ((class_c, (0, omega arith, refl), refl, (0, omega arith, refl)), refl))

d-left : IsLeft two_classes Z (Synthesized v) D
d-left = left D (source refl) (synt 1 2, ((symbol_item true D [] (synt 1 2 ∷ []), (1, omega arith, refl), refl, (0, omega arith, refl)), refl))

none : (h : Holder) (c : Comp) → ¬ Forces two_classes z_rule h c
none h c (of_rule is a) = absurd (omega (arith, a.0.1))
none h c (of_symbol is no_rule a) = in_bodies two_classes Z (Synthesized v) (λ c. ⊥) ((λ e. cc), ((λ e. cc), ((λ e. tt), tt))) c a
none h c (of_class class is no_rule own left one a) = apart C D class (sym (one C c-left)) (sym (one D d-left)) refl

pub returns : goal.returns
returns c = record { first = c-left; second = d-left; none = none }
