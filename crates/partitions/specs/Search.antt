-- The state of a search for an order of a graph's vertices.
use Rattle.std.specs.Prelude.{◌≡◌, ℕ, suc, ◌+◌, ◌-◌, ◌*◌, ◌<◌, ◌≤◌, ◌⊎◌, List, length, Some, slice_get, sum_by}
use Rattle.partitions.specs.declared.search.Mark.{Mark}
use Rattle.partitions.specs.declared.search.Mark.TheVariants.{Fresh, Entered, Closed}
use Rattle.partitions.specs.Graph.{IsEdge}

-- the vertex is closed
abbrev pub IsClosed : List Mark → ℕ → Type 0
IsClosed marks v = (n : ℕ) × (slice_get marks v ≡ Some (Closed n))

-- how many steps a vertex is from being closed
abbrev pub weight : Mark → ℕ
weight Fresh = 2
weight Entered = 1
weight (Closed n) = 0

-- Closed vertices come after their predecessors. The path leads from the root along predecessors, and has what is entered.
pub record IsSearch (preds : List (List ℕ)) (marks : List Mark) (tried path : List ℕ) (count : ℕ) : Type 0 where
  pub marks_count : length marks ≡ length preds
  pub tried_count : length tried ≡ length preds
  pub numbered : (u v n : ℕ) → IsEdge preds u v → slice_get marks v ≡ Some (Closed n) → (m : ℕ) × (slice_get marks u ≡ Some (Closed m)) × (m < n)
  pub below : (v n : ℕ) → slice_get marks v ≡ Some (Closed n) → n < count
  pub entered : (i v : ℕ) → slice_get path i ≡ Some v → slice_get marks v ≡ Some Entered
  pub on_path : (v : ℕ) → slice_get marks v ≡ Some Entered → (i : ℕ) × (slice_get path i ≡ Some v)
  pub linked : (i u v : ℕ) → slice_get path i ≡ Some v → slice_get path (suc i) ≡ Some u → IsEdge preds u v
  pub apart : (i j v : ℕ) → slice_get path i ≡ Some v → slice_get path j ≡ Some v → i ≡ j
  pub before : (v t j u : ℕ) (row : List ℕ) → slice_get tried v ≡ Some t → slice_get preds v ≡ Some row → j < t → slice_get row j ≡ Some u → IsClosed marks u
  pub total : count + sum_by weight marks ≤ 2 * length preds

-- u is on the path and a predecessor of the path's last vertex
abbrev pub IsBack : List (List ℕ) → List ℕ → ℕ → Type 0
IsBack preds path u = (i : ℕ) × (j : ℕ) × (v : ℕ) × (slice_get path i ≡ Some u) × (suc j ≡ length path) × (slice_get path j ≡ Some v) × IsEdge preds u v

-- nothing becomes fresh
abbrev pub IsLater : List Mark → List Mark → Type 0
IsLater old new = (v : ℕ) → slice_get new v ≡ Some Fresh → slice_get old v ≡ Some Fresh

-- the place of the j-th vertex of a cycle that stands on a path from a place on, turned so that it begins at m and goes back
abbrev pub IsTurnedPlace : ℕ → ℕ → ℕ → ℕ → ℕ → Type 0
IsTurnedPlace len from m j i = ((from + j ≤ m) × (i + j ≡ m)) ⊎ ((m < from + j) × (i + (from + j) ≡ len + m))

-- the first i vertices of such a cycle
pub record IsTurnedFront (path : List ℕ) (from first i : ℕ) (cycle : List ℕ) : Type 0 where
  pub count : length cycle ≡ i
  pub places : (j u : ℕ) → slice_get cycle j ≡ Some u → (k : ℕ) × IsTurnedPlace (length path) from first j k × (slice_get path k ≡ Some u)

-- the cycle has what stands on the path from a place on
abbrev pub IsTurned : List ℕ → ℕ → ℕ → List ℕ → Type 0
IsTurned path from first cycle = IsTurnedFront path from first (length path - from) cycle

-- the cycle has what stands on the path from a vertex on, and begins with the least
pub record IsCycleOn (path : List ℕ) (u : ℕ) (cycle : List ℕ) : Type 0 where
  pub from : ℕ
  pub first : ℕ
  pub start : slice_get path from ≡ Some u
  pub behind : from ≤ first
  pub inside : first < length path
  pub least : (j v w : ℕ) → from ≤ j → slice_get path first ≡ Some v → slice_get path j ≡ Some w → v ≤ w
  pub turned : IsTurned path from first cycle
