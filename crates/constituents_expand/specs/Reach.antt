-- Edges that lead from no shield, and the vertices to which edges lead from a set.
use Rattle.std.specs.Prelude.{ℕ, Bool, true, false, not, ◌&&◌, IsTrue, List, [], ◌∷◌}
use Rattle.least_paths.specs.Graph.{has_edge, is_in}

abbrev pub is_filled : List ℕ → Bool
is_filled [] = false
is_filled (x ∷ xs) = true

-- an edge leads to it from one of the set
abbrev pub IsChildOf : List (List ℕ) → List Bool → ℕ → Type 0
IsChildOf graph set y = (x : ℕ) × IsTrue (has_edge graph x y) × IsTrue (is_in set x)

-- an edge that leads from x, which is no shield, to y: from y upwards, and from x downwards
abbrev pub up_edge : List (List ℕ) → List Bool → ℕ → ℕ → Bool
up_edge graph shields y x = has_edge graph x y && not (is_in shields x)

abbrev pub down_edge : List (List ℕ) → List Bool → ℕ → ℕ → Bool
down_edge graph shields x y = not (is_in shields x) && has_edge graph x y
