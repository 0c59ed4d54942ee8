use Rattle.std.proofs.Common.{◌∙◌, refl}
use Rattle.flat_grammar.proofs.Lists.{contains_at}
use Rattle.induced_deps.proofs.DirectLemmas.{no_comps, one_comp_more}
use Rattle.induced_deps.proofs.direct.join_comps.Goals as goal

pub loop-comp-init : goal.loop-comp-init
loop-comp-init c = record { size = refl; edges = no_comps c.args.places.now c.args.closure.now.rows.items }

pub add_comp-requires-clause-placed : goal.add_comp-requires-clause-placed
add_comp-requires-clause-placed c = c.requires.placed c.comp-item.result (rw c.comp-item.is (contains_at c.args.comps.now c.loop-comp.comp-index _ c.loop-comp-test.true))

pub loop-comp-preserved : goal.loop-comp-preserved
loop-comp-preserved c = record {
  size = c.in_ok-add_comp.ensures.size ∙ c.loop-comp.invariant.size;
  edges = one_comp_more c.args.places.now c.args.closure.now.rows.items c.loop-comp.closure.rows.items c.add_comp.new.closure.rows.items c.args.comps.now c.loop-comp.comp-index _ c.comp-item.result
      c.loop-comp-test.true c.comp-item.is c.loop-comp.invariant.edges c.in_ok-add_comp.ensures.edges;
}
