use Rattle.std.proofs.Common.{◌∙◌, ◌++◌, ◌∷◌, [], max, ap, sym, arith}
use Rattle.core_machine.proofs.CursorReads.{most-step, levels-push}
use Rattle.core_machine.proofs.cursor.levels_of.Goals as goal

pub loop-node-preserved : goal.loop-node-preserved
loop-node-preserved c = record {
  count = c.loop-node.invariant.count;
  room = omega (arith, c.loop-node.invariant.room, c.push_reserved.ensures.capacity);
  len = omega (arith, c.push_reserved.ensures.len, c.loop-node.invariant.len);
  before = c.push_reserved.ensures.items ∙ (λ i. c.loop-node.invariant.before i ++ c.level_of-level.ensures.level i ∷ []) ∙ sym (levels-push c.args.job.now c.loop-node.node);
  most = most-step c.args.job.now c.args.region c.loop-node.node c.loop-node.most c.greatest-most.result c.loop-node.invariant.most
      (λ same. c.greatest-most.ensures.own same ∙ ap (λ z. max c.loop-node.most z) c.level_of-level.ensures.level) c.greatest-most.ensures.other;
}
