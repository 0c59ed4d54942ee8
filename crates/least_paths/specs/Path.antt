-- The steps of a walk to the nearest source.
use Rattle.std.specs.Prelude.{◌≡◌, ℕ, zero, suc, ◌<◌, ◌≤◌, ◌⊎◌, Bool, IsTrue, List, Option, Some, None, slice_get, unwrap_or, Contains}
use Rattle.least_paths.specs.Graph.{is_in}
use Rattle.least_paths.specs.Distances.{IsAt}

-- the distance of a vertex, and 0 where it has none
abbrev pub distance : List (Option ℕ) → ℕ → ℕ
distance dist v = unwrap_or (unwrap_or (slice_get dist v) None) 0

-- the number less by one, if there is one
abbrev pub pred_of : Option ℕ → Option ℕ
pred_of (Some (suc d)) = Some d
pred_of _ = None

-- the number is less than this one, if there is one
abbrev pub IsLess : ℕ → Option ℕ → Type 0
IsLess x None = Unit {0}
IsLess x (Some m) = x < m

-- the least of these vertices at this distance
abbrev pub IsNearest : List ℕ → List (Option ℕ) → ℕ → Option ℕ → Type 0
IsNearest row dist d None = (x : ℕ) → Contains row x → IsAt dist x d → ⊥
IsNearest row dist d (Some w) = Contains row w × IsAt dist w d × ((x : ℕ) → Contains row x → IsAt dist x d → w ≤ x)

-- the vertex to which the walk goes on from v, which has this distance
abbrev pub IsStep : (ℕ → ℕ → Bool) → List (Option ℕ) → ℕ → ℕ → Option ℕ → Type 0
IsStep is_edge dist v zero o = o ≡ None
IsStep is_edge dist v (suc d) None = (x : ℕ) → IsTrue (is_edge v x) → IsAt dist x d → ⊥
IsStep is_edge dist v (suc d) (Some w) = IsTrue (is_edge v w) × IsAt dist w d × ((x : ℕ) → IsTrue (is_edge v x) → IsAt dist x d → w ≤ x)

-- s has a distance, and a less one than the other vertex
abbrev pub IsNearer : List (Option ℕ) → ℕ → Option ℕ → Type 0
IsNearer dist s None = (d : ℕ) × IsAt dist s d
IsNearer dist s (Some b) = (d : ℕ) × IsAt dist s d × ((e : ℕ) → IsAt dist b e → d < e)

-- of the starts below n the least of those that are nearest to a source
abbrev pub IsBestBelow : List Bool → List (Option ℕ) → ℕ → Option ℕ → Type 0
IsBestBelow starts dist n None = (t e : ℕ) → t < n → IsTrue (is_in starts t) → IsAt dist t e → ⊥
IsBestBelow starts dist n (Some s) = (d : ℕ) × (s < n) × IsTrue (is_in starts s) × IsAt dist s d
    × ((t e : ℕ) → t < n → IsTrue (is_in starts t) → IsAt dist t e → (d < e) ⊎ ((d ≡ e) × (s ≤ t)))
