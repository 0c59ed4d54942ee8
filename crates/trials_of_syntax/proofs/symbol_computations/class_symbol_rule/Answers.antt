use Rattle.std.specs.Prelude.{◌≡◌, ℕ, refl}
use Rattle.std.proofs.Common.{arith, sym, ◌∙◌}
use Rattle.lido_base.specs.Reach.{source}
use Rattle.lido_syntax.specs.declared.spec.Comp.{Comp}
use Rattle.lido_syntax.specs.Sets.{Inherits}
use Rattle.lido_syntax.specs.Computation.{Synthesized, Holder, by_symbol, of_rule, of_symbol, of_class, IsLeft, InSymbol, HasInSymbol}
use Rattle.trials_of_syntax.specs.Classes.{X, Y, Z, C, v, synt, class_c, z_rule, class_symbol_rule, Forces}
use Rattle.trials_of_syntax.proofs.Members.{one_of}
use Rattle.trials_of_syntax.proofs.Classes.{inherits_within, in_bodies}
use Rattle.trials_of_syntax.proofs.symbol_computations.class_symbol_rule.Goals as goal

-- all inherit C alone, and C inherits nothing
abbrev ToClass : ℕ → ℕ → Type 0
ToClass s class = (¬ (s ≡ C)) × (class ≡ C)

from : (s x class : ℕ) → s ≡ x → ¬ (x ≡ C) → class ≡ C → ToClass s class
from s x class e f h = ((λ same. f (sym e ∙ same)), h)

to_class : (s class : ℕ) → Inherits class_symbol_rule s class → ToClass s class
to_class = inherits_within class_symbol_rule ToClass
    ((λ s class a b. cc), ((λ s class a b. from s X class (one_of s X a) (λ e. cc) (one_of class C b)), ((λ s class a b. from s Y class (one_of s Y a) (λ e. cc) (one_of class C b)), ((λ s class a b. from s Z class (one_of s Z a) (λ e. cc) (one_of class C b)), tt))))
    (λ s class above a b. absurd (b.0 a.1))

z-none : ¬ HasInSymbol class_symbol_rule Z (Synthesized v)
z-none (c, h) = in_bodies class_symbol_rule Z (Synthesized v) (λ c. ⊥) ((λ e. cc), ((λ e. cc), ((λ e. cc), ((λ e. tt), tt)))) c h

c-computes : InSymbol class_symbol_rule C (Synthesized v) (synt 0 1)
c-computes = ((class_c, (0, omega arith, refl), refl, (0, omega arith, refl)), refl)

c-left : IsLeft class_symbol_rule Z (Synthesized v) C
c-left = record {
  inherited = source refl;
  computes = (synt 0 1, c-computes);
  not_dropped = λ other h k i. (to_class other C i).0 (to_class Z other h).1;
}

z-class : Forces class_symbol_rule z_rule by_symbol (synt 0 1)
z-class = of_class C (refl, tt) (λ h. absurd (omega (arith, h.1.0.1))) z-none c-left (λ other k. (to_class Z other k.inherited).1) c-computes

only : (h : Holder) (c : Comp) → Forces class_symbol_rule z_rule h c → c ≡ synt 0 1
only h c (of_rule is a) = absurd (omega (arith, a.0.1))
only h c (of_symbol is none a) = absurd (z-none (c, a))
only h c (of_class class is none own left one a) = in_bodies class_symbol_rule class (Synthesized v) (λ c. c ≡ synt 0 1)
    ((λ e. ((λ k. refl), tt)), ((λ e. ((λ k. absurd ((to_class X C (source refl)).0 (sym (one_of class X e) ∙ (to_class Z class left.inherited).1))), tt)), ((λ e. ((λ k. absurd ((to_class Y C (source refl)).0 (sym (one_of class Y e) ∙ (to_class Z class left.inherited).1))), tt)), ((λ e. tt), tt)))) c a

pub returns : goal.returns
returns c = record {
  rule = of_rule (refl, tt) ((0, omega arith, refl), (refl, refl, (λ h. cc)));
  symbol = of_symbol (refl, tt) (λ h. absurd (omega (arith, h.1.0.1))) ((_, (2, omega arith, refl), refl, (0, omega arith, refl)), refl);
  class = z-class;
  no_other = only;
}
