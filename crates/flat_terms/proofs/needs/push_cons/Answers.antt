use Rattle.std.specs.Prelude.{Contains}
use Rattle.std.proofs.Common.{get_or, ap, ◌∙◌}
use Rattle.std.proofs.lemmas.Option.{slice_get-get_or}
use Rattle.lido_base.proofs.Lists.{place-contains}
use Rattle.rule_tables.specs.Slots.{Con}
use Rattle.flat_terms.specs.Scene.{occ}
use Rattle.flat_terms.proofs.LeafLemmas.{map-more}
use Rattle.flat_terms.proofs.needs.push_cons.Goals as goal

pub loop-j-preserved : goal.loop-j-preserved
loop-j-preserved c = λ scene is few.
    let places = c.args.places.now in
    let i = c.loop-j.j-index in
    let among : Contains places (get_or places i 0) = place-contains places i (get_or places i 0) (slice_get-get_or places i 0 c.loop-j-test.true) in
    map-more (λ j. occ scene j (Con c.args.number)) places i c.args.found.now.items c.loop-j.found.items c.push.new.self.items c.occ.result c.loop-j-test.true
    (c.loop-j.invariant scene is few) c.in_ok-push.ensures.items (c.occ.ensures scene is ∙ ap (λ n. occ scene n (Con c.args.number)) (c.narrow.ensures (few (get_or places i 0) among)))
