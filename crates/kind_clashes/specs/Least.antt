-- The least place where something is so, or none where it is so nowhere.
use Rattle.std.specs.Prelude.{◌≡◌, ℕ, min, List, Option, Some, None, Contains}
use Rattle.lido_base.specs.Faults.{IsLeastPlace}

-- what is found: the least of the places where this is so, and None where there is none
pub record IsFirst (P : ℕ → Type 0) (found : Option ℕ) : Type 0 where
  pub some : (at : ℕ) → found ≡ Some at → IsLeastPlace P at
  pub none : found ≡ None → (at : ℕ) → ¬ P at

-- the earlier of two places, where there is one
abbrev pub earlier_of : Option ℕ → Option ℕ → Option ℕ
earlier_of None other = other
earlier_of (Some one) None = Some one
earlier_of (Some one) (Some other) = Some (min one other)

-- it is so of an element of the list
pub record Among {X : Type 0} (Q : X → ℕ → Type 0) (xs : List X) (at : ℕ) : Type 0 where
  pub item : X
  pub among : Contains xs item
  pub is : Q item at
