use Rattle.std.proofs.Common.{◌∙◌}
use Rattle.rule_tables.specs.ExtraOf.{IsSlotOf}
use Rattle.flat_terms.specs.Scene.{occ}
use Rattle.flat_terms.proofs.TermLemmas.{slots-more, slots-done}
use Rattle.flat_terms.proofs.term_needs.added_occs.Goals as goal

pub loop-at-preserved : goal.loop-at-preserved
loop-at-preserved c = λ scene is named zip.
    slots-more (IsSlotOf c.args.tables.now scene.plain) (λ o. occ scene o.0 o.1) c.args.slots.now named c.loop-at.at-index _ c.loop-at.found.items c.push.new.self.items c.added_occ.result zip c.loop-at-test.true
    (c.added_occ.ensures scene is) (c.loop-at.invariant scene is named zip) c.in_ok-push.ensures.items

pub returns : goal.returns
returns c = λ scene is named zip.
    c.loop-at.invariant scene is named zip
    ∙ slots-done (IsSlotOf c.args.tables.now scene.plain) (λ o. occ scene o.0 o.1) c.args.slots.now named c.loop-at.at-index zip c.loop-at-test.false
