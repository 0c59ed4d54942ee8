use Rattle.order_report.proofs.PutsLemmas.{extends_same, extends_then}
use Rattle.order_report.proofs.ReportLemmas.{rule_whole}
use Rattle.order_report.proofs.report.add_rule.Goals as goal

pub returns : goal.returns
returns g c =
    extends_same _ _ _ _ _ _ _ _ (rule_whole c.args.strings.now c.args.symbols.now c.args.rule.now c.args.items.now c.name-rule_name.result.now c.name-rule_name.ensures)
    (extends_then _ _ c.add_pieces-head.ensures (extends_then _ _ c.add_items-sequence.ensures c.add.ensures))
