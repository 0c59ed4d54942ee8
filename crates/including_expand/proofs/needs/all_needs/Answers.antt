use Rattle.std.specs.List.{AllZip}
use Rattle.std.proofs.Common.{◌∙◌, List, Some, ap, sym, subst, take_all}
use Rattle.std.proofs.lemmas.Option.{slice_get-get_or}
use Rattle.lido_base.proofs.Lists.{place-contains}
use Rattle.symbol_attributes.proofs.OrderLemmas.{lists-more}
use Rattle.including_sets.specs.declared.sets.PairSet.{PairSet}
use Rattle.including_expand.specs.Needed.{IsNeedOf}
use Rattle.including_expand.proofs.needs.all_needs.Goals as goal

pub set_needs-requires-clause-each : goal.set_needs-requires-clause-each
set_needs-requires-clause-each c =
    let sets = c.args.sets.now in
    let i = c.loop-set.set-index in
    let x = c.set-item.result in
    c.requires.each x (place-contains sets i x (slice_get-get_or sets i x c.loop-set-test.true ∙ ap Some (sym c.set-item.is)))

pub loop-set-preserved : goal.loop-set-preserved
loop-set-preserved c =
    let sets = c.args.sets.now in
    let i = c.loop-set.set-index in
    let x = c.set-item.result in
    lists-more (IsNeedOf c.args.graph.now) sets i x c.loop-set.needs.items _ _ (slice_get-get_or sets i x c.loop-set-test.true ∙ ap Some (sym c.set-item.is)) c.in_ok-push.ensures.items c.loop-set.invariant
    c.in_ok-set_needs.ensures

pub returns : goal.returns
returns c = subst (λ (l : List PairSet). AllZip (IsNeedOf c.args.graph.now) l c.loop-set.needs.items) (take_all c.loop-set.set-index c.args.sets.now c.loop-set-test.false) c.loop-set.invariant
