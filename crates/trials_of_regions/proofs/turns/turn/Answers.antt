use Rattle.std.proofs.Common.{get_or, subst, sym}
use Rattle.std.proofs.Math.ListN.{set}
use Rattle.std.proofs.lemmas.Option.{slice_get-get_or}
use Rattle.region_engine.specs.Regions.{IsRegionOf}
use Rattle.trials_of_regions.proofs.Standings.{given-standing, run-standing, some-regions}
use Rattle.trials_of_regions.proofs.turns.turn.Goals as goal

pub run-requires-clause-region : goal.run-requires-clause-region
run-requires-clause-region c =
    let some = c.args.regions.now in let item = c.index-regions-place.result in
    let at = c.requires.standing.all.each c.args.place (get_or some c.args.place item) (slice_get-get_or some c.args.place item c.requires.place) in
    subst (λ q. IsRegionOf c.args.job.now q (get_or some c.args.place item)) (sym at.behind.region) at

pub run-requires-clause-table : goal.run-requires-clause-table
run-requires-clause-table c =
    let some = c.args.regions.now in let item = c.index-regions-place.result in
    c.requires.standing.tables c.args.place (get_or some c.args.place item) (slice_get-get_or some c.args.place item c.requires.place)

pub deliver-requires : goal.deliver-requires
deliver-requires c =
    let some = c.args.regions.now in let item = c.index-regions-place.result in
    some-regions c.args.job.now (set some c.args.place c.run.new.self)
    (run-standing c.args.job.now c.args.boundary.now some c.requires.standing c.args.place (get_or some c.args.place item) c.run.new.self
    (slice_get-get_or some c.args.place item c.requires.place) c.run.ensures.region c.run.ensures.same).all

pub returns : goal.returns
returns c =
    let some = c.args.regions.now in let item = c.index-regions-place.result in
    given-standing c.args.job.now c.args.boundary.now (set some c.args.place c.run.new.self)
    (run-standing c.args.job.now c.args.boundary.now some c.requires.standing c.args.place (get_or some c.args.place item) c.run.new.self
    (slice_get-get_or some c.args.place item c.requires.place) c.run.ensures.region c.run.ensures.same)
    _ c.deliver.new.regions c.deliver.ensures.regions c.deliver.ensures.given
