use Rattle.std.proofs.Common.{◌∙◌, ◌<◌, Some, length, sym, ap, get_or, arith}
use Rattle.std.proofs.lemmas.Option.{slice_get-get_or}
use Rattle.std.proofs.lemmas.List.{length-set}
use Rattle.lido_base.proofs.Lists.{place-contains}
use Rattle.least_paths.proofs.GraphLemmas.{edges-next, edges-all}
use Rattle.symbol_attributes.proofs.inheritance.add_edges.Goals as goal

pub index_mut-requires : goal.index_mut-requires
index_mut-requires c =
    let at = slice_get-get_or c.args.row.now c.loop-y.y-index 0 c.loop-y-test.true in
    omega (arith, c.requires (get_or c.args.row.now c.loop-y.y-index 0) (place-contains c.args.row.now c.loop-y.y-index _ at), c.loop-y.invariant.count, c.loop-y.graph.ok.0)

pub loop-y-preserved : goal.loop-y-preserved
loop-y-preserved c =
    let y = get_or c.args.row.now c.loop-y.y-index 0 in
    let at = slice_get-get_or c.args.row.now c.loop-y.y-index 0 c.loop-y-test.true in
    let below : y < length c.loop-y.graph.items = omega (arith, c.requires y (place-contains c.args.row.now c.loop-y.y-index _ at), c.loop-y.invariant.count) in
    record {
      count = length-set c.loop-y.graph.items y c.push.new.self ∙ c.loop-y.invariant.count;
      edges = edges-next c.args.graph.now.items c.loop-y.graph.items c.push.new.self c.index_mut.result.now c.args.x c.loop-y.y-index y c.args.row.now at
          (slice_get-get_or c.loop-y.graph.items y c.index_mut.result.now below ∙ ap Some (sym c.index_mut.ensures.value)) c.in_ok-push.ensures.ok c.loop-y.invariant.edges;
    }

pub returns-clause-edges : goal.returns-clause-edges
returns-clause-edges c = edges-all c.args.graph.now.items c.loop-y.graph.items c.args.row.now c.args.x c.loop-y.y-index c.loop-y-test.false c.loop-y.invariant.edges
