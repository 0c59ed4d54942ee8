use Rattle.std.proofs.Common.{◌<◌, ◌∷◌, [], ◌∙◌, arith, sym, subst, refl, length, get_or}
use Rattle.std.proofs.lemmas.List.{get_or-set_other}
use Rattle.std.proofs.lemmas.Option.{slice_get_read, get_or_from_slice_get}
use Rattle.region_engine.specs.Regions.{number, IsRegionOf}
use Rattle.region_engine.specs.Deliveries.{IsGiven}
use Rattle.region_engine.proofs.Giving.{set-step}
use Rattle.region_engine.proofs.handing.give_each.Goals as goal

pub loop-region-preserved : goal.loop-region-preserved
loop-region-preserved c =
    let i = c.loop-region.invariant in
    let xs = c.loop-region.regions in let k = c.loop-region.region-index in let new = c.take.new.self in let old = c.args.regions.now in
    let low : k < length xs = omega (arith, c.loop-region-test.true, c.loop-region.auto.regions) in
    let there = slice_get_read xs (length xs) k c.region-item.result refl low c.region-item.is in
    record {
      stand = λ n d h. set-step (λ n g. IsRegionOf c.args.job.now (number g) g) xs k new d low (λ m l. i.stand m d l) c.take.ensures.region n h;
      given = λ n d h. set-step (λ n g. IsGiven (c.args.key ∷ []) (get_or old n d) g) xs k new d low (λ m l. i.given m d l)
          (subst (λ z. IsGiven (c.args.key ∷ []) z new) (sym (sym (i.rest k d (omega arith)) ∙ get_or_from_slice_get xs k c.region-item.result d there ∙ c.region-item.is)) c.take.ensures.given) n h;
      rest = λ n d h. get_or-set_other xs k n new d (λ e. omega (arith, e, h)) ∙ i.rest n d (omega (arith, h));
    }
