-- What holds of each item of a list that is written out.
use Rattle.std.specs.Prelude.{Contains, Bool, true, false, IsTrue, ◌||◌, nat_eq}
use Rattle.std.specs.List.{AllByRecursion}
use Rattle.std.proofs.Common.{◌≡◌, ℕ, ◌⊎◌, inl, inr, List, [], ◌∷◌, refl, arith, subst, sym, ◌∙◌, eqb-true, eq-eqb}
pub use Rattle.std.proofs.lemmas.Option.{same_Some}
use Rattle.lido_base.proofs.Lists.{contains-cons}

pub every : {X : Type 0} (P : X → Type 0) (xs : List X) → AllByRecursion P xs → (x : X) → Contains xs x → P x
every P [] all x m = absurd (omega (arith, m.1))
every P (y ∷ ys) all x m = at (contains-cons y x ys m) (λ k. every P ys all.1 x k)
  where
    at : (y ≡ x) ⊎ Contains ys x → (Contains ys x → P x) → P x
    at (inl e) later = subst P e all.0
    at (inr k) later = later k

-- the number is the only one of the list
pub one_of : (x y : ℕ) → IsTrue (nat_eq x y || false) → x ≡ y
one_of x y h = go (nat_eq x y) refl h
  where
    go : (b : Bool) → nat_eq x y ≡ b → IsTrue (b || false) → x ≡ y
    go true e h = eqb-true x y e
    go false e h = cc

pub one_of_two : (x y z : ℕ) → IsTrue (nat_eq x y || (nat_eq x z || false)) → (x ≡ y) ⊎ (x ≡ z)
one_of_two x y z h = go (nat_eq x y) refl h
  where
    go : (b : Bool) → nat_eq x y ≡ b → IsTrue (b || (nat_eq x z || false)) → (x ≡ y) ⊎ (x ≡ z)
    go true e h = inl (eqb-true x y e)
    go false e h = inr (one_of x z h)

-- no number is two
pub apart : (a b x : ℕ) → x ≡ a → x ≡ b → nat_eq a b ≡ false → ⊥
apart a b x e f h = let same : nat_eq a b ≡ true = eq-eqb a b (sym e ∙ f) in cc
