-- Graphs given by the predecessors of each vertex: orders and cycles.
use Rattle.std.specs.Prelude.{◌≡◌, ℕ, suc, ◌<◌, ◌≤◌, List, length, Some, slice_get, Contains}

-- u is a predecessor of v
abbrev pub IsEdge : List (List ℕ) → ℕ → ℕ → Type 0
IsEdge preds u v = (row : List ℕ) × (slice_get preds v ≡ Some row) × Contains row u

-- each predecessor is a vertex
abbrev pub IsGraph : List (List ℕ) → Type 0
IsGraph preds = (u v : ℕ) → IsEdge preds u v → u < length preds

-- the vertices can be numbered so that each edge rises
abbrev pub IsOrdered : List (List ℕ) → Type 0
IsOrdered preds = (rank : ℕ → ℕ) × (bound : ℕ) × ((v : ℕ) → v < length preds → rank v < bound) × ((u v : ℕ) → IsEdge preds u v → rank u < rank v)

-- A closed walk in which no vertex stands twice, begun at its least one.
pub record IsGraphCycle (preds : List (List ℕ)) (cycle : List ℕ) : Type 0 where
  pub some : 0 < length cycle
  pub edges : (j u v : ℕ) → slice_get cycle j ≡ Some u → slice_get cycle (suc j) ≡ Some v → IsEdge preds u v
  pub closed : (j u v : ℕ) → suc j ≡ length cycle → slice_get cycle j ≡ Some u → slice_get cycle 0 ≡ Some v → IsEdge preds u v
  pub apart : (i j v : ℕ) → slice_get cycle i ≡ Some v → slice_get cycle j ≡ Some v → i ≡ j
  pub least : (j u v : ℕ) → slice_get cycle 0 ≡ Some u → slice_get cycle j ≡ Some v → u ≤ v
