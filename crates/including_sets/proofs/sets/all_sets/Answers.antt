use Rattle.std.specs.List.{AllZip}
use Rattle.std.proofs.Common.{◌∙◌, List, Some, ap, sym, subst, take_all}
use Rattle.std.proofs.lemmas.Option.{slice_get-get_or}
use Rattle.symbol_attributes.proofs.OrderLemmas.{lists-more}
use Rattle.including_sets.specs.declared.listings.Listing.{Listing}
use Rattle.including_sets.specs.Made.{IsMade}
use Rattle.including_sets.proofs.sets.all_sets.Goals as goal

pub loop-first-preserved : goal.loop-first-preserved
loop-first-preserved c =
    let kept = c.args.kept.now in
    let i = c.loop-first.first-index in
    let x = c.first-item.result in
    lists-more (IsMade c.args.forced.now c.args.symbols.now c.args.listings.now) kept i x c.loop-first.sets.items _ _
    (slice_get-get_or kept i x c.loop-first-test.true ∙ ap Some (sym c.first-item.is)) c.in_ok-push.ensures.items c.loop-first.invariant c.in_ok-pair_set.ensures

pub returns : goal.returns
returns c = subst (λ (l : List Listing). AllZip (IsMade c.args.forced.now c.args.symbols.now c.args.listings.now) l c.loop-first.sets.items) (take_all c.loop-first.first-index c.args.kept.now c.loop-first-test.false) c.loop-first.invariant
