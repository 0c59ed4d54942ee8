-- The number of edges from a vertex to the nearest source.
use Rattle.std.specs.Prelude.{◌≡◌, ℕ, suc, ◌+◌, ◌<◌, ◌≤◌, ◌⊎◌, ◌↔◌, Bool, IsTrue, List, length, Option, Some, None, slice_get, sum_by, Contains}

-- the vertex has this distance
abbrev pub IsAt : List (Option ℕ) → ℕ → ℕ → Type 0
IsAt dist x d = slice_get dist x ≡ Some (Some d)

-- how many vertices have none
abbrev pub open_of : Option ℕ → ℕ
open_of None = 1
open_of (Some d) = 0

abbrev pub unmarked : List (Option ℕ) → ℕ
unmarked = sum_by open_of

-- Of these vertices, those without a distance got this one, and were added.
pub record IsMarked (old new : List (Option ℕ)) (vs : List ℕ) (d : ℕ) (added : List ℕ) : Type 0 where
  pub count : length new ≡ length old
  pub kept : (x e : ℕ) → IsAt old x e → IsAt new x e
  pub only : (x e : ℕ) → IsAt new x e → IsAt old x e ⊎ ((e ≡ d) × Contains added x)
  pub fresh : (x : ℕ) → Contains added x → (slice_get old x ≡ Some None) × IsAt new x d × Contains vs x
  pub all : (x : ℕ) → Contains vs x → (e : ℕ) × IsAt new x e
  pub fewer : unmarked new + length added ≡ unmarked old

module _ (is_source : ℕ → Bool) (is_edge : ℕ → ℕ → Bool) where
  -- The sources are at 0, and from a vertex farther off an edge leads to one that is nearer by one.
  pub record AreFar (dist : List (Option ℕ)) : Type 0 where
    pub sources : (x : ℕ) → IsTrue (is_source x) → IsAt dist x 0
    pub zero_source : (x : ℕ) → IsAt dist x 0 → IsTrue (is_source x)
    pub farther : (x d : ℕ) → IsAt dist x (suc d) → (y : ℕ) × IsTrue (is_edge x y) × IsAt dist y d

  -- The vertices up to this distance have it, those at it are in front, and of those nearer all that lead to them are known.
  pub record IsLevel (dist : List (Option ℕ)) (front : List ℕ) (d : ℕ) : Type 0 where
    pub far : AreFar dist
    pub most : (x e : ℕ) → IsAt dist x e → e ≤ d
    pub in_front : (x : ℕ) → Contains front x ↔ IsAt dist x d
    pub near : (x y e : ℕ) → IsTrue (is_edge x y) → IsAt dist y e → e < d → (f : ℕ) × IsAt dist x f × (f ≤ suc e)

  -- Each vertex from which a source can be reached has its distance.
  pub record AreDistances (dist : List (Option ℕ)) : Type 0 where
    pub far : AreFar dist
    pub near : (x y e : ℕ) → IsTrue (is_edge x y) → IsAt dist y e → (f : ℕ) × IsAt dist x f × (f ≤ suc e)
