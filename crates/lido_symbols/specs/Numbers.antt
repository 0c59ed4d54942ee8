-- Numbers by first place: what is named in a text is numbered from 0 by the place at which it is named first.
use Rattle.std.specs.Prelude.{ℕ, suc, ◌<◌, Bool, IsTrue, nat_eq, not, if◌then◌else◌, List, [], ◌∷◌, filter, All, AllPairs, Contains}

-- the first place in a list at which the test passes, and its length where there is none
abbrev pub place_in : {X : Type 0} → (X → Bool) → List X → ℕ
place_in test [] = 0
place_in test (x ∷ xs) = if test x then 0 else suc (place_in test xs)

-- the items of a list with their numbers
abbrev pub enumerated : {X : Type 0} → ℕ → List X → List (ℕ × X)
enumerated k [] = []
enumerated k (x ∷ xs) = (k, x) ∷ enumerated (suc k) xs

-- the different numbers of a list, at their first places
abbrev pub different : List ℕ → List ℕ
different [] = []
different (x ∷ xs) = x ∷ filter (λ y. not (nat_eq x y)) (different xs)

-- The keys are those that are named, each at its number. Keys that pass the test are one; of one key a first naming stands
-- before each naming of the next ones.
pub record AreNumbered {K : Type 0} (is_same : K → K → Bool) (uses : List (ℕ × K)) (keys : List K) : Type 0 where
  pub named : All (λ k. (at : ℕ) × Contains uses (at, k)) keys
  pub all : (at : ℕ) (k : K) → Contains uses (at, k) → (l : K) × Contains keys l × IsTrue (is_same k l)
  pub by_place : AllPairs (λ k l. (at : ℕ) (j : K) → Contains uses (at, j) → IsTrue (is_same j l) → (first : ℕ) × (i : K) × Contains uses (first, i) × IsTrue (is_same i k) × (first < at)) keys
