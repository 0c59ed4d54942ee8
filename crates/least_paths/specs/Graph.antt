-- Graphs as lists: for each vertex those to which an edge leads from it. Sets of vertices as lists of tests.
use Rattle.std.specs.Prelude.{ℕ, ◌<◌, Bool, false, List, [], length, slice_get, unwrap_or, Contains}
use Rattle.lido_base.specs.Tree.{contains}

-- the vertex is in the set
abbrev pub is_in : List Bool → ℕ → Bool
is_in set x = unwrap_or (slice_get set x) false

-- the vertices to which an edge leads from this one
abbrev pub row_of : List (List ℕ) → ℕ → List ℕ
row_of next x = unwrap_or (slice_get next x) []

-- an edge leads from the one to the other
abbrev pub has_edge : List (List ℕ) → ℕ → ℕ → Bool
has_edge next x y = contains y (row_of next x)

abbrev pub IsEdge : List (List ℕ) → ℕ → ℕ → Type 0
IsEdge next x y = Contains (row_of next x) y

-- edges lead to vertices
abbrev pub IsGraph : List (List ℕ) → Type 0
IsGraph next = (x y : ℕ) → IsEdge next x y → y < length next
