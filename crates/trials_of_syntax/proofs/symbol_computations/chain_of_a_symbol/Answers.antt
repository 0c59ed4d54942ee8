use Rattle.std.specs.Prelude.{◌≡◌, ℕ, refl}
use Rattle.std.proofs.Common.{arith}
use Rattle.lido_base.specs.Reach.{source}
use Rattle.lido_syntax.specs.declared.spec.Comp.{Comp}
use Rattle.lido_syntax.specs.Sets.{Inherits}
use Rattle.lido_syntax.specs.Computation.{Holder, Start, of_rule, of_symbol, of_class, InForce, IsLeft, InSymbol, HasInSymbol}
use Rattle.trials_of_syntax.specs.Classes.{Y, Z, C, no, start, y_rule, chain_in_symbols}
use Rattle.trials_of_syntax.proofs.Members.{one_of, apart}
use Rattle.trials_of_syntax.proofs.Classes.{inherits_within, in_bodies}
use Rattle.trials_of_syntax.proofs.symbol_computations.chain_of_a_symbol.Goals as goal

above : (s class : ℕ) → Inherits chain_in_symbols s class → (s ≡ Z) × (class ≡ C)
above = inherits_within chain_in_symbols (λ s class. (s ≡ Z) × (class ≡ C))
    ((λ s class a b. cc), ((λ s class a b. cc), ((λ s class a b. (one_of s Z a, one_of class C b)), tt)))
    (λ s class above a b. absurd (apart C Z class a.1 b.0 refl))

z-none : ¬ HasInSymbol chain_in_symbols Z (Start no)
z-none (c, h) = in_bodies chain_in_symbols Z (Start no) (λ c. ⊥) ((λ e. cc), ((λ e. cc), ((λ e. tt), tt))) c h

y-none : (c : Comp) → ¬ InSymbol chain_in_symbols Y (Start no) c
y-none c h = in_bodies chain_in_symbols Y (Start no) (λ c. ⊥) ((λ e. cc), ((λ e. ((λ k. k), tt)), ((λ e. cc), tt))) c h

c-computes : InSymbol chain_in_symbols C (Start no) start
c-computes = ((_, (0, omega arith, refl), refl, (0, omega arith, refl)), refl)

c-left : IsLeft chain_in_symbols Z (Start no) C
c-left = record {
  inherited = source refl;
  computes = (start, c-computes);
  not_dropped = λ other h k i. apart C Z other (above Z other h).1 (above other C i).0 refl;
}

no_start : (h : Holder) (c : Comp) → ¬ InForce chain_in_symbols y_rule 0 Y (Start no) h c
no_start h c (of_rule is a) = omega (arith, a.0.1)
no_start h c (of_symbol is none a) = y-none c a
no_start h c (of_class class is none own left one a) = apart Y Z Y refl (above Y class left.inherited).0 refl

pub returns : goal.returns
returns c = record {
  start = of_class C (refl, tt) (λ h. absurd (omega (arith, h.1.0.1))) z-none c-left (λ other k. (above Z other k.inherited).1) c-computes;
  this = of_symbol (refl, tt) (λ h. absurd (omega (arith, h.1.0.1))) ((_, (1, omega arith, refl), refl, (0, omega arith, refl)), refl);
  no_start = no_start;
}
