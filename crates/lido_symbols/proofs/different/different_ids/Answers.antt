use Rattle.std.proofs.Common.{get_or, refl}
use Rattle.lido_base.specs.declared.ids.StrId.{StrId}
use Rattle.lido_symbols.proofs.DifferentLemmas.{different-step}
use Rattle.lido_symbols.proofs.different.different_ids.Goals as goal

pub loop-id-preserved : goal.loop-id-preserved
loop-id-preserved c =
    let ids = c.args.ids.now in
    let i = c.loop-id.id-index in
    let none : StrId = record { 0 = 0 } in
    different-step (λ (s : StrId). s.0) ids i (get_or ids i none) none _ _ c.loop-id-test.true refl c.loop-id.invariant c.in_ok-add.ensures.added
