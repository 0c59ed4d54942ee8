-- Kinds of faults: none and a first one exclude each other, lists of kinds one behind another, least places.
use Rattle.std.proofs.Common.{◌≡◌, ℕ, zero, suc, ◌≤◌, ◌<◌, inl, inr, List, [], ◌∷◌, ◌++◌, arith, sym, ap, ◌∙◌}
use Rattle.std.proofs.lemmas.Bool.{cases_lt}
use Rattle.lido_base.specs.Faults.{HasNone, First, IsLeastPlace, AtPlace}

-- where there is none, none is the first
pub none-first : {F : Type 0} (Ps : List (F → Type 0)) (f : F) → HasNone Ps → First Ps f → ⊥
none-first [] f none first = first
none-first (P ∷ Ps) f none (inl is) = none.0 f is
none-first (P ∷ Ps) f none (inr later) = none-first Ps f none.1 later.1

-- none of all is none of the kinds in front and none of those behind
pub none-append : {F : Type 0} (Ps Qs : List (F → Type 0)) → HasNone Ps → HasNone Qs → HasNone (Ps ++ Qs)
none-append [] Qs none more = more
none-append (P ∷ Ps) Qs none more = (none.0, none-append Ps Qs none.1 more)

pub none-front : {F : Type 0} (Ps Qs : List (F → Type 0)) → HasNone (Ps ++ Qs) → HasNone Ps
none-front [] Qs none = tt
none-front (P ∷ Ps) Qs none = (none.0, none-front Ps Qs none.1)

pub none-behind : {F : Type 0} (Ps Qs : List (F → Type 0)) → HasNone (Ps ++ Qs) → HasNone Qs
none-behind [] Qs none = none
none-behind (P ∷ Ps) Qs none = none-behind Ps Qs none.1

-- the first of the kinds in front is the first of all
pub first-front : {F : Type 0} (Ps Qs : List (F → Type 0)) (f : F) → First Ps f → First (Ps ++ Qs) f
first-front [] Qs f first = absurd first
first-front (P ∷ Ps) Qs f (inl is) = inl is
first-front (P ∷ Ps) Qs f (inr later) = inr (later.0, first-front Ps Qs f later.1)

-- where the kinds in front have none, the first of those behind is the first of all
pub first-behind : {F : Type 0} (Ps Qs : List (F → Type 0)) (f : F) → HasNone Ps → First Qs f → First (Ps ++ Qs) f
first-behind [] Qs f none first = first
first-behind (P ∷ Ps) Qs f none first = inr (none.0, first-behind Ps Qs f none.1 first)

-- there is one least place
pub one_place : {P : ℕ → Type 0} {at other : ℕ} → IsLeastPlace P at → IsLeastPlace P other → at ≡ other
one_place {P} {at} {other} a b = let up = a.least other b.there in let down = b.least at a.there in omega arith

pub one_at_place : {F : Type 0} (make : ℕ → F) (P : ℕ → Type 0) (f g : F) → AtPlace make P f → AtPlace make P g → f ≡ g
one_at_place make P f g a b = a.2 ∙ ap make (one_place a.1 b.1) ∙ sym b.2

-- where there is no such place, no fault is at the least
pub none-at_place : {F : Type 0} (make : ℕ → F) (P : ℕ → Type 0) → ((at : ℕ) → ¬ P at) → (f : F) → ¬ AtPlace make P f
none-at_place make P none f is = none is.0 is.1.there

least_of : {P : ℕ → Type 0} (at : ℕ) → ((other : ℕ) → other < at → ¬ P other) → (other : ℕ) → P other → at ≤ other
least_of at none other is = elim (cases_lt other at) [ inl lt ↦ absurd (none other lt is) | inr le ↦ le ]

no_place_below : {F : Type 0} (make : ℕ → F) (P : ℕ → Type 0) → ((f : F) → ¬ AtPlace make P f) → (n at : ℕ) → at < n → ¬ P at
no_place_below make P none zero at below there = omega arith
no_place_below make P none (suc n) at below there =
    none (make at) (at, record { there = there; least = least_of at (λ other lt. no_place_below make P none n other (omega arith)) }, λ j. make at)

-- and where no fault is at the least place, there is no such place
pub at_place-none : {F : Type 0} (make : ℕ → F) (P : ℕ → Type 0) → ((f : F) → ¬ AtPlace make P f) → (at : ℕ) → ¬ P at
at_place-none make P none at = no_place_below make P none (suc at) at (omega arith)
