use Rattle.partitions.specs.Search.{IsTurnedFront}
use Rattle.partitions.proofs.cycle.turned.Given as goal

-- the vertices so far
abbrev pub invariant-loop-j : goal.invariant-loop-j
invariant-loop-j l = IsTurnedFront l.path l.from l.first l.j l.cycle.items
