use Rattle.std.proofs.Common.{◌∙◌, refl, length, subst, sym}
use Rattle.induced_deps.specs.Vertices.{AreWithin}
use Rattle.flat_grammar.proofs.Lists.{contains_at}
use Rattle.induced_deps.proofs.DirectLemmas.{placed_within, no_dependencies, one_dependency_more}
use Rattle.induced_deps.proofs.direct.add_edges.Goals as goal

pub loop-u-init : goal.loop-u-init
loop-u-init c = record { size = refl; edges = no_dependencies c.args.places.now c.args.closure.now.rows.items c.args.goal }

pub add-requires : goal.add-requires
add-requires c = placed_within c.args.places.now (length c.loop-u.closure.rows.items) _ c.number-in-loop-u.result c.number-in-loop-u.ensures
    (subst (AreWithin c.args.places.now) (sym c.loop-u.invariant.size) c.requires.within) (c.requires.before _ (contains_at c.args.before.now c.loop-u.u-index _ c.loop-u-test.true))

pub loop-u-preserved : goal.loop-u-preserved
loop-u-preserved c = record {
  size = c.add.ensures.size ∙ c.loop-u.invariant.size;
  edges = one_dependency_more c.args.places.now c.args.closure.now.rows.items c.loop-u.closure.rows.items c.add.new.self.rows.items c.args.before.now c.args.goal c.loop-u.u-index _ c.number-in-loop-u.result c.number.result c.only-goal.result.words
      c.loop-u-test.true c.number-in-loop-u.ensures c.number.ensures c.only-goal.ensures c.loop-u.invariant.edges c.add.ensures.edges;
}
