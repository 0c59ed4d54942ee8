use Rattle.std.proofs.Common.{◌∙◌, get_or}
use Rattle.std.proofs.lemmas.Option.{slice_get-get_or}
use Rattle.symbol_attributes.proofs.RowsLemmas.{join-next, join-all}
use Rattle.symbol_attributes.proofs.inheritance.join.Goals as goal

pub loop-x-preserved : goal.loop-x-preserved
loop-x-preserved c = record {
  count = c.in_ok-add_edges.ensures.count ∙ c.loop-x.invariant.count;
  edges = join-next c.args.graph.now.items c.loop-x.graph.items c.add_edges.new.graph.items c.args.from.now c.args.to.now c.loop-x.x-index (get_or c.args.to.now c.loop-x.x-index 0)
      (slice_get-get_or c.args.to.now c.loop-x.x-index 0 c.loop-x-test.true) c.loop-x.invariant.edges c.in_ok-add_edges.ensures.edges;
}

pub returns-clause-edges : goal.returns-clause-edges
returns-clause-edges c = join-all c.args.graph.now.items c.loop-x.graph.items c.args.from.now c.args.to.now c.loop-x.x-index c.loop-x-test.false c.loop-x.invariant.edges
