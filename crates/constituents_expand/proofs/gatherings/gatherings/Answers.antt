use Rattle.std.proofs.Common.{◌∙◌, List, Some, ap, sym, subst, take_all}
use Rattle.std.proofs.lemmas.Option.{slice_get-get_or}
use Rattle.symbol_attributes.proofs.OrderLemmas.{lists-more}
use Rattle.constituents_expand.specs.declared.uses.Use.{Use}
use Rattle.constituents_expand.specs.Uses.{told}
use Rattle.constituents_expand.specs.Gatherings.{IsGatheringOf, AreGatherings}
use Rattle.constituents_expand.proofs.gatherings.gatherings.Goals as goal

pub loop-one-preserved : goal.loop-one-preserved
loop-one-preserved c =
    let uses = c.args.uses.now in
    let i = c.loop-one.one-index in
    let x = c.one-item.result in
    lists-more (λ u g. IsGatheringOf c.args.forced.now c.args.symbols.now (told u) g) uses i x c.loop-one.all.items _ _
    (slice_get-get_or uses i x c.loop-one-test.true ∙ ap Some (sym c.one-item.is)) c.in_ok-push.ensures.items c.loop-one.invariant c.in_ok-gathering.ensures

pub returns : goal.returns
returns c = subst (λ (l : List Use). AreGatherings c.args.forced.now c.args.symbols.now l c.loop-one.all.items) (take_all c.loop-one.one-index c.args.uses.now c.loop-one-test.false) c.loop-one.invariant
