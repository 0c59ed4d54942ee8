use Rattle.std.proofs.Common.{◌≡◌, ℕ, ◌<◌, length}
use Rattle.std.specs.Prelude.{◌↔◌}
use Rattle.least_paths.specs.Graph.{IsEdge}
use Rattle.least_paths.proofs.edges.turned.Given as goal

-- the edges from the vertices so far
abbrev pub invariant-loop-x : goal.invariant-loop-x
invariant-loop-x l = record {
  count : length l.back.items ≡ length l.next;
  edges : (x y : ℕ) → IsEdge l.back.items y x ↔ ((x < l.x) × IsEdge l.next x y);
}
