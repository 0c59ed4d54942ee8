-- Two keys are the same where place and aim are.
use Rattle.std.specs.Prelude.{Bool, true, false, ◌&&◌, nat_eq, IsTrue}
use Rattle.std.proofs.Common.{◌≡◌, ℕ, zero, suc, refl, sym, ap, ◌∙◌, eqb-true, eq-eqb}
use Rattle.computation_aims.specs.declared.aims.Way.{Way}
use Rattle.computation_aims.specs.declared.aims.Way.TheVariants as way
use Rattle.computation_aims.specs.declared.aims.Aim.{Aim}
use Rattle.computation_aims.specs.Aims.{number_of}
use Rattle.computation_aims.specs.Keys.{is_same_aim}

abbrev way_at : ℕ → Way
way_at zero = way.Synthesized
way_at (suc zero) = way.Inherited
way_at (suc (suc zero)) = way.Start
way_at n = way.Behind

way-numbered : (w : Way) → way_at (number_of w) ≡ w
way-numbered way.Synthesized = refl
way-numbered way.Inherited = refl
way-numbered way.Start = refl
way-numbered way.Behind = refl

both : (a b : Bool) → IsTrue (a && b) → IsTrue a × IsTrue b
both true b h = (refl, h)
both false b h = cc

together : (a b : Bool) → IsTrue a → IsTrue b → IsTrue (a && b)
together true b p q = q
together false b p q = cc

pub same-aim : (p q : ℕ) (a b : Aim) → is_same_aim p a q b ≡ true → (p ≡ q) × (a ≡ b)
same-aim p q a b h =
    let f = both (nat_eq p q && nat_eq (number_of a.way) (number_of b.way)) (nat_eq a.name.0 b.name.0) h in
    let g = both (nat_eq p q) (nat_eq (number_of a.way) (number_of b.way)) f.0 in
    let w : a.way ≡ b.way = sym (way-numbered a.way) ∙ ap way_at (eqb-true _ _ g.1) ∙ way-numbered b.way in
    let n : a.name.0 ≡ b.name.0 = eqb-true _ _ f.1 in
    (eqb-true _ _ g.0, λ i. record { way = w i; name = record { 0 = n i } })

pub aim-same : (p : ℕ) (a : Aim) → is_same_aim p a p a ≡ true
aim-same p a = together (nat_eq p p && nat_eq (number_of a.way) (number_of a.way)) _ (together (nat_eq p p) _ (eq-eqb p p refl) (eq-eqb (number_of a.way) (number_of a.way) refl)) (eq-eqb a.name.0 a.name.0 refl)
