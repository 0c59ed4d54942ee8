use Rattle.std.proofs.Common.{◌≡◌, ◌+◌, ap, arith, length}
use Rattle.core_machine.proofs.RoomLemmas.{cells_before, cells-next, few-next}
use Rattle.region_engine.proofs.sizes.cells_of_region.Goals as goal

pub overflow_add-total : goal.overflow_add-total
overflow_add-total c =
    let n = ap length c.trees.ensures.flat in
    let few = few-next c.args.job.now c.facts.ensures c.args.number c.loop-node.node (omega (arith, n, c.len-node-end.ensures.count, c.loop-node-test.true)) in
    let total : c.loop-node.total ≡ cells_before c.args.job.now c.args.number c.loop-node.node = c.loop-node.invariant in
    omega (arith, few, total, c.cells_within-total.ensures)

pub loop-node-preserved : goal.loop-node-preserved
loop-node-preserved c =
    let total : c.loop-node.total ≡ cells_before c.args.job.now c.args.number c.loop-node.node = c.loop-node.invariant in
    let next = cells-next c.args.job.now c.args.number c.loop-node.node in
    let sum : c.loop-node.total + c.cells_within-total.result ≡ cells_before c.args.job.now c.args.number (c.loop-node.node + 1) = omega (arith, total, next, c.cells_within-total.ensures) in
    sum
