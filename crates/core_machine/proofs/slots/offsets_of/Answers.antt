use Rattle.std.proofs.Common.{◌≡◌, ◌∙◌, ◌+◌, suc, ap, map, length, arith}
use Rattle.std.specs.List.{range_with_len}
use Rattle.core_machine.specs.Slots.{offset}
use Rattle.core_machine.proofs.SlotLemmas.{offset-more, offsets-push}
use Rattle.core_machine.proofs.slots.offsets_of.Goals as goal

pub loop-node-preserved : goal.loop-node-preserved
loop-node-preserved c = record {
  count = c.loop-node.invariant.count;
  room = omega (arith, c.loop-node.invariant.room, c.push_reserved.ensures.capacity);
  len = omega (arith, c.push_reserved.ensures.len, c.loop-node.invariant.len);
  list = offsets-push c.args.job.now c.loop-node.node c.loop-node.list.items c.push_reserved.new.self.items c.loop-node.next c.loop-node.invariant.list c.loop-node.invariant.next c.push_reserved.ensures.items;
  next = let e = offset-more c.args.job.now c.loop-node.node in omega (arith, e, c.loop-node.invariant.next, c.width_of-next.ensures.width);
}

pub returns : goal.returns
returns c =
    let n : c.loop-node.node + 1 ≡ suc (length c.args.job.now.flat) = omega (arith, c.loop-node.invariant.count, c.loop-node-test.false, c.loop-node.auto.node-end) in
    offsets-push c.args.job.now c.loop-node.node c.loop-node.list.items c.push_reserved-2.new.self.items c.loop-node.next c.loop-node.invariant.list c.loop-node.invariant.next c.push_reserved-2.ensures.items
    ∙ ap (λ m. map (offset c.args.job.now) (range_with_len 0 m)) n
