-- Kinds of faults in an order, and the fault that a phase answers. A kind says of each fault whether it is one of that kind
-- and there.
use Rattle.std.specs.Prelude.{◌≡◌, ℕ, ◌≤◌, ◌⊎◌, List, [], ◌∷◌}

-- There is no fault of any of these kinds.
abbrev pub HasNone : {F : Type 0} → List (F → Type 0) → Type 0
HasNone [] = Unit {0}
HasNone {F} (P ∷ Ps) = ((g : F) → ¬ P g) × HasNone Ps

-- The fault is of the first of these kinds of which there is one.
abbrev pub First : {F : Type 0} → List (F → Type 0) → F → Type 0
First [] f = ⊥
First {F} (P ∷ Ps) f = P f ⊎ (((g : F) → ¬ P g) × First Ps f)

-- The least of the places where this is so.
pub record IsLeastPlace (P : ℕ → Type 0) (at : ℕ) : Type 0 where
  pub there : P at
  pub least : (other : ℕ) → P other → at ≤ other

-- The fault that is made of the least of the places where this is so.
abbrev pub AtPlace : {F : Type 0} → (ℕ → F) → (ℕ → Type 0) → F → Type 0
AtPlace make P f = (at : ℕ) × IsLeastPlace P at × (f ≡ make at)
