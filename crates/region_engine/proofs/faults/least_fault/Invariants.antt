use Rattle.core_machine.specs.Faults.{IsLeast, IsFaultBefore}
use Rattle.region_engine.specs.Finals.{final_values}
use Rattle.region_engine.proofs.faults.least_fault.Given as goal

-- the least origin of the nodes so far
abbrev pub invariant-loop-node : goal.invariant-loop-node
invariant-loop-node l = IsLeast (IsFaultBefore l.job (final_values l.job) l.node 0) l.bad
