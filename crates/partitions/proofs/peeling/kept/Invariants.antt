use Rattle.partitions.specs.Peeling.{IsKept}
use Rattle.partitions.proofs.PeelingLemmas.{IsFound}
use Rattle.partitions.proofs.peeling.kept.Given as goal

-- the set has the kept members so far
abbrev pub invariant-loop-a : goal.invariant-loop-a
invariant-loop-a l = IsFound (IsKept l.fn.rows l.set l.fn.allowed) l.a l.left
