use Rattle.std.proofs.Common.{◌≡◌, ◌+◌, ◌≤◌, length}
use Rattle.least_paths.specs.Graph.{has_edge, is_in}
use Rattle.least_paths.specs.Distances.{IsLevel, unmarked}
use Rattle.least_paths.proofs.distances.distances.Given as goal

-- the levels so far
abbrev pub invariant-loop-alloc : goal.invariant-loop-alloc
invariant-loop-alloc l = record {
  count : length l.dist.items ≡ length l.next;
  level : IsLevel (is_in l.sources) (has_edge l.next) l.dist.items l.front.items l.d;
  bound : l.d + unmarked l.dist.items + length l.front.items ≤ length l.next;
}

abbrev pub decreases-loop-alloc : goal.decreases-loop-alloc
decreases-loop-alloc l = unmarked l.dist.items + length l.front.items
