use Rattle.std.proofs.Common.{◌≡◌, ℕ, ◌<◌, List, [], ◌∷◌, ◌++◌, length}
use Rattle.std.specs.Prelude.{Bool, nat_eq}
use Rattle.lido_base.specs.Reach.{IsLeastPath}
use Rattle.least_paths.specs.Graph.{has_edge}
use Rattle.least_paths.specs.Distances.{IsAt, AreDistances}
use Rattle.least_paths.specs.Path.{distance}
use Rattle.least_paths.proofs.path.walk.Given as goal

-- a path from here on goes on the path so far
abbrev pub invariant-loop-w : goal.invariant-loop-w
invariant-loop-w l = record {
  vertex : l.v < length l.next;
  at : (d : ℕ) × IsAt l.dist l.v d;
  walked : (front : List ℕ) × (l.path.items ≡ front ++ l.v ∷ [])
      × ((is_source : ℕ → Bool) → AreDistances is_source (has_edge l.next) l.dist → (rest : List ℕ) → IsLeastPath (nat_eq l.v) is_source (has_edge l.next) rest
      → IsLeastPath (nat_eq l.fn.start) is_source (has_edge l.next) (front ++ rest));
}

abbrev pub decreases-loop-w : goal.decreases-loop-w
decreases-loop-w l = distance l.dist l.v
