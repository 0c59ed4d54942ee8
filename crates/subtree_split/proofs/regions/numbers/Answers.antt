use Rattle.std.proofs.Common.{◌∙◌, ◌+◌, ap, sym, arith, map, take, get_or}
use Rattle.lido_base.specs.declared.ids.NodeId.{NodeId}
use Rattle.tree_store.specs.Regions.{number_among}
use Rattle.subtree_split.proofs.RegionsLemmas.{number_step, so_far_push, length-so_far}
use Rattle.subtree_split.proofs.regions.numbers.Goals as goal

pub loop-k-preserved : goal.loop-k-preserved
loop-k-preserved c =
    let nodes = c.args.nodes.now in
    let k = c.loop-k.k in
    let d : NodeId = record { 0 = 0 } in
    let xs = map (λ (m : NodeId). m.0) (take k nodes) in
    record {
      each = c.give_number.ensures.each ∙ c.loop-k.invariant.each;
      numbered = λ n h. number_step c.args.count c.loop-k.numbers.items c.give_number.new.numbers.items xs (get_or nodes k d).0 (k + 1) c.loop-k.invariant.each c.loop-k.invariant.numbered
          c.give_number.ensures.here c.give_number.ensures.kept c.give_number.ensures.others (omega (arith, length-so_far nodes k c.loop-k-test.true)) n h
          ∙ ap (λ z. number_among z n) (sym (so_far_push nodes k d c.loop-k-test.true));
    }
