use Rattle.std.proofs.Common.{List, ℕ, [], ◌∷◌, ap}
use Rattle.std.specs.List.{concat}
use Rattle.lido_base.specs.declared.ids.AttrId.{AttrId}
use Rattle.order_report.specs.Report.{attribute_text}
use Rattle.order_report.proofs.PutsLemmas.{extends_all, extends_more, extends_same}
use Rattle.order_report.proofs.report.add_attributes.Goals as goal

pub loop-attr-preserved : goal.loop-attr-preserved
loop-attr-preserved g c =
    extends_more _ _ (λ (a : AttrId). concat (c.args.word.now ∷ attribute_text c.args.strings.now c.args.symbol.now a ∷ [])) c.args.attrs.now c.loop-attr.attr-index _ c.loop-attr-test.true c.loop-attr.invariant
    (extends_same _ _ _ _ _ _ _ _ (ap (λ (l : List ℕ). concat (c.args.word.now ∷ l ∷ [])) c.attribute.ensures) c.add_pieces-written.ensures)

pub returns : goal.returns
returns g c =
    extends_all _ _ (λ (a : AttrId). concat (c.args.word.now ∷ attribute_text c.args.strings.now c.args.symbol.now a ∷ [])) c.args.attrs.now c.loop-attr.attr-index c.loop-attr-test.false c.loop-attr.invariant
