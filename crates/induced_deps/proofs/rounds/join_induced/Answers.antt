use Rattle.std.proofs.Common.{◌∙◌, refl}
use Rattle.induced_deps.proofs.RoundLemmas.{no_places, one_place_more, row_is}
use Rattle.induced_deps.proofs.rounds.join_induced.Goals as goal

pub loop-place-init : goal.loop-place-init
loop-place-init c = record { size = refl; transitive = λ some. c.requires.transitive; edges = no_places c.args.closure.now.rows.items c.args.ids.now }

pub loop-place-preserved : goal.loop-place-preserved
loop-place-preserved c =
    let l = c.loop-place in
    let p = c.join_rows-left in
    record {
      size = p.ensures.size ∙ l.invariant.size;
      transitive = p.ensures.transitive;
      edges = one_place_more c.args.closure.now.rows.items l.closure.rows.items p.new.closure.rows.items c.args.ids.now c.args.places.now l.place-index _ c.as_slice-rows.result.now
          c.loop-place-test.true (row_is c.args.ids.now c.args.places.now l.place-index _ _ c.as_slice-rows.result.now c.index-ids-place.result c.loop-place-test.true c.requires.rows c.as_slice-rows.ensures c.index-ids-place.is) l.invariant.edges p.ensures.edges;
    }
