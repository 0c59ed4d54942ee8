use Rattle.std.proofs.Common.{◌≡◌, ap, arith, subst, length}
use Rattle.core_machine.specs.Faults.{IsLeast, IsFaultBefore}
use Rattle.region_engine.specs.Finals.{final_values}
use Rattle.region_engine.proofs.faults.least_fault.Goals as goal

pub returns : goal.returns
returns c =
    let j = c.args.job.now in
    let flat = ap length c.trees.ensures.flat in
    let n : c.loop-node.node ≡ length j.flat = omega (arith, flat, c.len-node-end.ensures.count, c.loop-node-test.false, c.loop-node.auto.node-end) in
    subst (λ m. IsLeast (IsFaultBefore j (final_values j) m 0) c.loop-node.bad) n c.loop-node.invariant
