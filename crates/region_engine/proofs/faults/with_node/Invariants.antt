use Rattle.core_machine.specs.Faults.{IsLeast, IsFaultBefore}
use Rattle.region_engine.specs.Finals.{final_values}
use Rattle.region_engine.proofs.faults.with_node.Given as goal

-- the least origin so far
abbrev pub invariant-loop-k : goal.invariant-loop-k
invariant-loop-k l = IsLeast (IsFaultBefore l.job (final_values l.job) l.node l.k) l.bad
