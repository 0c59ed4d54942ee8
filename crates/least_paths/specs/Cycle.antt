-- The first of the shortest cycles among those that begin at some vertices.
use Rattle.std.specs.Prelude.{◌≡◌, ℕ, ◌<◌, nat_lt, Bool, List, [], ◌∷◌, length, Option, Some, None, option_map, if◌then◌else◌}
use Rattle.std.specs.Global.{Vec}
use Rattle.lido_base.specs.Reach.{IsFirstOf, IsClosedPath}

-- the items of the list, if there is one
abbrev pub items_of : Option (Vec ℕ) → Option (List ℕ)
items_of o = option_map (λ (v : Vec ℕ). v.items) o

-- the first of the lists that are so, or that there is none
abbrev pub IsFound : (List ℕ → Type 0) → Option (List ℕ) → Type 0
IsFound IsSo None = (xs : List ℕ) → IsSo xs → ⊥
IsFound IsSo (Some xs) = IsFirstOf IsSo xs

-- a cycle that begins at this vertex
abbrev pub IsFrom : (ℕ → ℕ → Bool) → ℕ → List ℕ → Type 0
IsFrom is_edge s [] = ⊥
IsFrom is_edge s (t ∷ rest) = (s ≡ t) × IsClosedPath is_edge (t ∷ rest)

-- a cycle that begins below a number
abbrev pub IsBelow : (ℕ → ℕ → Bool) → ℕ → List ℕ → Type 0
IsBelow is_edge n [] = ⊥
IsBelow is_edge n (t ∷ rest) = (t < n) × IsClosedPath is_edge (t ∷ rest)

-- the shorter of two lists, and the first where they have one length
abbrev pub shorter_of : Option (List ℕ) → Option (List ℕ) → Option (List ℕ)
shorter_of None found = found
shorter_of (Some best) None = Some best
shorter_of (Some best) (Some found) = if nat_lt (length found) (length best) then Some found else Some best
