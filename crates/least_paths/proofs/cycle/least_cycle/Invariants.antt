use Rattle.least_paths.specs.Graph.{has_edge}
use Rattle.least_paths.specs.Cycle.{items_of, IsFound, IsBelow}
use Rattle.least_paths.proofs.cycle.least_cycle.Given as goal

-- the best that begins before the vertex
abbrev pub invariant-loop-s : goal.invariant-loop-s
invariant-loop-s l = IsFound (IsBelow (has_edge l.next) l.s) (items_of l.best)
