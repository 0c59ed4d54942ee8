-- The rows of a graph without the edges of closed vertices.
use Rattle.std.specs.Prelude.{ℕ, Bool, if◌then◌else◌, List, []}
use Rattle.least_paths.specs.Graph.{is_in, row_of}

abbrev pub kept_of : List (List ℕ) → List Bool → ℕ → List ℕ
kept_of next closed x = if is_in closed x then [] else row_of next x
