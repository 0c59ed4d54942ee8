-- The side of a rule on which occurrences are.
use Rattle.std.specs.Prelude.{if◌then◌else◌, ◌||◌}
use Rattle.std.proofs.Common.{◌≡◌, ℕ, zero, suc, Bool, true, false, nat_eq, List, [], ◌∷◌, Some, None, refl, ◌∙◌, ap, sym, eqb-true, eq-eqb}
use Rattle.lido_base.specs.declared.kinds.Kind.{Kind}
use Rattle.lido_base.specs.declared.kinds.Kind.TheVariants.{Synthesized, Inherited}
use Rattle.lido_base.specs.Tree.{contains}
use Rattle.lido_syntax.specs.Attributes.{IsOnSide}
use Rattle.lido_syntax.specs.Production.{places_from}
use Rattle.symbol_attributes.specs.Said.{side_of, one_side}

side-right : (k x : ℕ) (ys : List ℕ) → side_of (places_from (suc k) x ys) ≡ (if contains x ys then Some Inherited else None)
side-right k x [] = refl
side-right k x (y ∷ ys) = go (nat_eq x y) refl (side-right (suc k) x ys)
  where
    go : (b : Bool) → nat_eq x y ≡ b → side_of (places_from (suc (suc k)) x ys) ≡ (if contains x ys then Some Inherited else None)
        → side_of (places_from (suc k) x (y ∷ ys)) ≡ (if contains x (y ∷ ys) then Some Inherited else None)
    go true e later = rw e refl
    go false e later = rw e later

no-places : (k x : ℕ) (ys : List ℕ) → contains x ys ≡ false → places_from k x ys ≡ []
no-places k x [] h = refl
no-places k x (y ∷ ys) h = go (nat_eq x y) refl (no-places (suc k) x ys)
  where
    go : (b : Bool) → nat_eq x y ≡ b → (contains x ys ≡ false → places_from (suc k) x ys ≡ []) → places_from k x (y ∷ ys) ≡ []
    go true e later = absurd (let g : true ≡ false = sym (ap (λ b. b || contains x ys) e) ∙ h in cc)
    go false e later = rw e (later (sym (ap (λ b. b || contains x ys) e) ∙ h))

behind-left : (ps : List ℕ) → side_of ps ≡ Some Inherited → side_of (0 ∷ ps) ≡ None
behind-left [] h = absurd (cc)
behind-left (p ∷ ps) h = refl

side-both : (x : ℕ) (ys : List ℕ) → contains x ys ≡ true → side_of (places_from 0 x (x ∷ ys)) ≡ None
side-both x ys h = rw (eq-eqb x x refl) (behind-left (places_from 1 x ys) (side-right 0 x ys ∙ ap (λ (b : Bool). if b then Some Inherited else None) h))

side-left : (x : ℕ) (ys : List ℕ) → contains x ys ≡ false → side_of (places_from 0 x (x ∷ ys)) ≡ Some Synthesized
side-left x ys h = rw (eq-eqb x x refl) (ap (λ (ps : List ℕ). side_of (0 ∷ ps)) (no-places 1 x ys h))

side-other : (x y : ℕ) (ys : List ℕ) → nat_eq x y ≡ false → side_of (places_from 0 x (y ∷ ys)) ≡ (if contains x ys then Some Inherited else None)
side-other x y ys e = rw e (side-right 0 x ys)

-- the side of the symbol, by whether it stands on the left and on the right
pub side-by : (x y : ℕ) (ys : List ℕ) → side_of (places_from 0 x (y ∷ ys)) ≡ one_side (nat_eq x y) (contains x ys)
side-by x y ys = go (nat_eq x y) (contains x ys) refl refl
  where
    go : (b c : Bool) → nat_eq x y ≡ b → contains x ys ≡ c → side_of (places_from 0 x (y ∷ ys)) ≡ one_side b c
    go true true e h = ap (λ z. side_of (places_from 0 x (z ∷ ys))) (sym (eqb-true x y e)) ∙ side-both x ys h
    go true false e h = ap (λ z. side_of (places_from 0 x (z ∷ ys))) (sym (eqb-true x y e)) ∙ side-left x ys h
    go false true e h = side-other x y ys e ∙ ap (λ (b : Bool). if b then Some Inherited else None) h
    go false false e h = side-other x y ys e ∙ ap (λ (b : Bool). if b then Some Inherited else None) h

-- the side that the occurrences are on
pub side-is : (ks : List ℕ) (kind : Kind) → side_of ks ≡ Some kind → IsOnSide kind ks
side-is [] kind h = absurd (cc)
side-is (zero ∷ []) Synthesized h = tt
side-is (zero ∷ []) Inherited h = absurd (cc)
side-is (zero ∷ k ∷ ks) kind h = absurd (cc)
side-is (suc k ∷ ks) Synthesized h = absurd (cc)
side-is (suc k ∷ ks) Inherited h = tt

pub is-side : (ks : List ℕ) (kind : Kind) → IsOnSide kind ks → side_of ks ≡ Some kind
is-side [] Synthesized h = absurd h
is-side [] Inherited h = absurd h
is-side (zero ∷ []) Synthesized h = refl
is-side (zero ∷ []) Inherited h = absurd h
is-side (zero ∷ k ∷ ks) Synthesized h = absurd h
is-side (zero ∷ k ∷ ks) Inherited h = absurd h
is-side (suc k ∷ ks) Synthesized h = absurd h
is-side (suc k ∷ ks) Inherited h = refl
