use Rattle.std.proofs.Common.{◌≡◌, ap, arith, subst, length}
use Rattle.core_machine.specs.Faults.{IsLeast, IsFaultBefore}
use Rattle.core_machine.proofs.faults.least_fault.Goals as goal

pub returns : goal.returns
returns c =
    let flat = ap length c.trees.ensures.flat in
    let n : c.loop-node.node ≡ length c.args.job.now.flat = omega (arith, flat, c.len-node-end.ensures.count, c.loop-node-test.false, c.loop-node.auto.node-end) in
    subst (λ m. IsLeast (IsFaultBefore c.args.job.now c.args.values.now m 0) c.loop-node.bad) n c.loop-node.invariant
