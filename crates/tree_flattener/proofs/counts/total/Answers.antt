use Rattle.std.proofs.Common.{arith}
use Rattle.tree_flattener.proofs.CountLemmas.{sum_next}
use Rattle.tree_flattener.proofs.counts.total.Goals as goal

pub loop-n-preserved : goal.loop-n-preserved
loop-n-preserved c = record {
  sum = let next = sum_next c.args.numbers.now c.args.tree.now c.loop-n.n c.rule.result.0 c.rule.ensures in omega (arith, next, c.loop-n.invariant.sum, c.number_at-sum.ensures);
  few = let b = c.requires c.rule.result.0 in omega (arith, c.loop-n.invariant.few, c.number_at-sum.ensures);
}
