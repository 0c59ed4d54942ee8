use Rattle.core_machine.specs.Faults.{IsLeast, IsFaultBefore}
use Rattle.core_machine.proofs.faults.with_node.Given as goal

-- the least origin so far
abbrev pub invariant-loop-k : goal.invariant-loop-k
invariant-loop-k l = IsLeast (IsFaultBefore l.job l.values l.node l.k) l.bad
