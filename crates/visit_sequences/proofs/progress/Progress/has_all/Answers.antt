use Rattle.std.specs.Prelude.{All}
use Rattle.std.proofs.Common.{◌≡◌, true, refl, subst}
use Rattle.std.proofs.lemmas.List.{take_all}
use Rattle.std.proofs.lemmas.List.Elements.{All-more}
use Rattle.lido_base.specs.declared.ids.AttrId.{AttrId}
use Rattle.visit_sequences.specs.Steps.{HasBit}
use Rattle.visit_sequences.proofs.progress.Progress.has_all.Goals as goal

pub loop-attr-preserved : goal.loop-attr-preserved
loop-attr-preserved c =
    let yes : c.is_evaluated.result ≡ true = c.if-not-is_evaluated.false in
    All-more (λ (a : AttrId). HasBit c.args.self.now.evaluated.items (record { occ = c.args.occ; attr = a })) c.args.attrs.now c.loop-attr.attr-index _ c.loop-attr-test.true c.loop-attr.invariant (c.is_evaluated.ensures.0 yes)

pub returns : goal.returns
returns c = (
  (λ _. subst (All (λ (a : AttrId). HasBit c.args.self.now.evaluated.items (record { occ = c.args.occ; attr = a }))) (take_all c.loop-attr.attr-index c.args.attrs.now c.loop-attr-test.false) c.loop-attr.invariant),
  (λ _. refl),
)
