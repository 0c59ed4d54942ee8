use Rattle.std.proofs.Common.{List, codes, ap, ◌∙◌}
use Rattle.lido_base.specs.declared.ids.AttrId.{AttrId}
use Rattle.order_report.specs.Report.{attributes_text}
use Rattle.order_report.proofs.PutsLemmas.{extends_same, extends_then}
use Rattle.order_report.proofs.ReportLemmas.{visit_whole}
use Rattle.order_report.proofs.report.add_visit.Goals as goal

pub returns : goal.returns
returns g c =
    extends_same _ _ _ _ _ _ _ _
    (visit_whole c.args.strings.now c.args.symbol.now c.args.number c.args.class.now c.name-symbol_name.result.now c.as_bytes.result.now c.name-symbol_name.ensures (c.as_bytes.ensures ∙ c.of-number.ensures))
    (extends_then _ _ c.add_pieces-head.ensures
    (extends_then _ _ (extends_same _ _ _ _ _ _ _ _ (ap (λ (l : List AttrId). attributes_text c.args.strings.now c.args.symbol.now (codes " in ") l) c.as_slice.ensures) c.add_attributes-taken.ensures)
    (extends_then _ _ (extends_same _ _ _ _ _ _ _ _ (ap (λ (l : List AttrId). attributes_text c.args.strings.now c.args.symbol.now (codes " out ") l) c.as_slice-2.ensures) c.add_attributes-given.ensures) c.add.ensures)))
