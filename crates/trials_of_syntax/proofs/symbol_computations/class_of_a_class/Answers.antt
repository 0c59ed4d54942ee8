use Rattle.std.specs.Prelude.{◌≡◌, ℕ, ◌⊎◌, [], ◌∷◌, refl, true}
use Rattle.std.proofs.Common.{arith, inl, inr}
use Rattle.lido_base.specs.Reach.{source}
use Rattle.lido_syntax.specs.Sets.{Inherits}
use Rattle.lido_syntax.specs.Computation.{Synthesized, of_class, IsLeft, InSymbol, HasInSymbol}
use Rattle.trials_of_syntax.specs.Classes.{Z, C, D, v, synt, class_of_class}
use Rattle.trials_of_syntax.specs.Writing.{symbol_item}
use Rattle.trials_of_syntax.proofs.Members.{one_of, one_of_two, apart}
use Rattle.trials_of_syntax.proofs.Classes.{inherits_within, in_bodies}
use Rattle.trials_of_syntax.proofs.symbol_computations.class_of_a_class.Goals as goal

-- Z inherits C and D, and D inherits C
abbrev Above : ℕ → ℕ → Type 0
Above s class = ((s ≡ Z) × ((class ≡ C) ⊎ (class ≡ D))) ⊎ ((s ≡ D) × (class ≡ C))

join : (s class above : ℕ) → Above s class → Above class above → Above s above
join s class above (inl (a, inl b)) (inl (c, d)) = absurd (apart C Z class b c refl)
join s class above (inl (a, inl b)) (inr (c, d)) = absurd (apart C D class b c refl)
join s class above (inl (a, inr b)) (inl (c, d)) = absurd (apart D Z class b c refl)
join s class above (inl (a, inr b)) (inr (c, d)) = inl (a, inl d)
join s class above (inr (a, b)) (inl (c, d)) = absurd (apart C Z class b c refl)
join s class above (inr (a, b)) (inr (c, d)) = absurd (apart C D class b c refl)

above : (s class : ℕ) → Inherits class_of_class s class → Above s class
above = inherits_within class_of_class Above
    ((λ s class a b. cc), ((λ s class a b. inr (one_of s D a, one_of class C b)), ((λ s class a b. inl (one_of s Z a, one_of_two class C D b)), tt)))
    join

d-computes : InSymbol class_of_class D (Synthesized v) (synt 1 2)
d-computes = ((symbol_item true D (C ∷ []) (synt 1 2 ∷ []), (1, omega arith, refl), refl, (0, omega arith, refl)), refl)

not_above_d : (other : ℕ) → Above Z other → ¬ Above other D
not_above_d other (inl (a, inl b)) (inl (c, d)) = apart C Z other b c refl
not_above_d other (inl (a, inr b)) (inl (c, d)) = apart D Z other b c refl
not_above_d other (inl (a, b)) (inr (c, d)) = apart C D D d refl refl
not_above_d other (inr (a, b)) h = apart Z D Z refl a refl

d-left : IsLeft class_of_class Z (Synthesized v) D
d-left = record {
  inherited = source refl;
  computes = (synt 1 2, d-computes);
  not_dropped = λ other h k i. not_above_d other (above Z other h) (above other D i);
}

c-dropped : ¬ IsLeft class_of_class Z (Synthesized v) C
c-dropped left = left.not_dropped D (source refl) (synt 1 2, d-computes) (source refl)

only-d : (other : ℕ) → IsLeft class_of_class Z (Synthesized v) other → other ≡ D
only-d other left = at (above Z other left.inherited) left
  where
    at : Above Z other → IsLeft class_of_class Z (Synthesized v) other → other ≡ D
    at (inl (a, inl b)) left = absurd (c-dropped (rw b at left))
    at (inl (a, inr b)) left = b
    at (inr (a, b)) left = absurd (apart Z D Z refl a refl)

z-none : ¬ HasInSymbol class_of_class Z (Synthesized v)
z-none (c, h) = in_bodies class_of_class Z (Synthesized v) (λ c. ⊥) ((λ e. cc), ((λ e. cc), ((λ e. tt), tt))) c h

pub returns : goal.returns
returns c = record {
  left = of_class D (refl, tt) (λ h. absurd (omega (arith, h.1.0.1))) z-none d-left only-d d-computes;
  dropped = c-dropped;
}
