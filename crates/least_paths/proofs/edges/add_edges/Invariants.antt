use Rattle.std.proofs.Common.{◌≡◌, ℕ, ◌⊎◌, take, length}
use Rattle.std.specs.Prelude.{Contains, ◌↔◌}
use Rattle.least_paths.specs.Graph.{IsEdge}
use Rattle.least_paths.proofs.edges.add_edges.Given as goal

-- the edges so far
abbrev pub invariant-loop-y : goal.invariant-loop-y
invariant-loop-y l = record {
  count : length l.back.items ≡ length l.fn.back.items;
  edges : (u v : ℕ) → IsEdge l.back.items u v ↔ (IsEdge l.fn.back.items u v ⊎ (Contains (take l.y-index l.row) u × (v ≡ l.x)));
}
