use Rattle.std.proofs.Common.{arith}
use Rattle.table_faults.proofs.LimitsLemmas.{constituents-one, constituents-other}
use Rattle.table_faults.proofs.limits.constituents_count.Goals as goal
use Rattle.table_faults.proofs.limits.constituents_count.Goals.{in-Constituents, in_default}

pub loop-leaf-preserved : goal.loop-leaf-preserved
loop-leaf-preserved c =
    let few = c.loop-leaf.invariant.few in
    elim c.match-leaf.branch [
      | in-Constituents w ↦ record {
        count = constituents-one c.args.leaves.now c.loop-leaf.leaf-index c.leaf-item.result w.in-Constituents.field-0 c.loop-leaf.count _ c.loop-leaf-test.true c.leaf-item.is w.in-Constituents.is c.loop-leaf.invariant.count w.count-is;
        few = let e = w.count-is in omega (arith, few, e);
      }
      | in_default w ↦ record {
        count = constituents-other c.args.leaves.now c.loop-leaf.leaf-index c.leaf-item.result c.loop-leaf.count _ c.loop-leaf-test.true c.leaf-item.is w.in_default.not-Constituents c.loop-leaf.invariant.count w.count-is;
        few = let e = w.count-is in omega (arith, few, e);
      }
    ]
