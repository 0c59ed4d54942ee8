use Rattle.std.proofs.Common.{◌≡◌, ◌∙◌, ◌+◌, suc, ap, map, length, arith}
use Rattle.std.specs.List.{range_with_len}
use Rattle.region_engine.specs.Kept.{own_offset}
use Rattle.region_engine.proofs.Offsets.{own-few, own-more, own-push}
use Rattle.region_engine.proofs.sizes.own_offsets_of.Goals as goal

pub overflow_add-next : goal.overflow_add-next
overflow_add-next c =
    let e = own-few c.args.job.now c.args.number c.facts.ensures c.loop-node.node (omega (arith, c.loop-node.invariant.count, c.loop-node-test.true)) in
    omega (arith, e, c.loop-node.invariant.next, c.own_width_of-next.ensures)

pub loop-node-preserved : goal.loop-node-preserved
loop-node-preserved c = record {
  count = c.loop-node.invariant.count;
  room = omega (arith, c.loop-node.invariant.room, c.push_reserved.ensures.capacity);
  len = omega (arith, c.push_reserved.ensures.len, c.loop-node.invariant.len);
  list = own-push c.args.job.now c.args.number c.loop-node.node c.loop-node.list.items c.push_reserved.new.self.items c.loop-node.next c.loop-node.invariant.list c.loop-node.invariant.next c.push_reserved.ensures.items;
  next = let e = own-more c.args.job.now c.args.number c.loop-node.node in omega (arith, e, c.loop-node.invariant.next, c.own_width_of-next.ensures);
}

pub returns : goal.returns
returns c =
    let n : c.loop-node.node + 1 ≡ suc (length c.args.job.now.flat) = omega (arith, c.loop-node.invariant.count, c.loop-node-test.false, c.loop-node.auto.node-end) in
    own-push c.args.job.now c.args.number c.loop-node.node c.loop-node.list.items c.push_reserved-2.new.self.items c.loop-node.next c.loop-node.invariant.list c.loop-node.invariant.next c.push_reserved-2.ensures.items
    ∙ ap (λ m. map (own_offset c.args.job.now c.args.number) (range_with_len 0 m)) n
