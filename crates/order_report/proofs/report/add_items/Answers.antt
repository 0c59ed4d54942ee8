use Rattle.order_report.proofs.PutsLemmas.{extends_same, extends_then}
use Rattle.order_report.proofs.ReportLemmas.{items_whole}
use Rattle.order_report.proofs.report.add_items.Goals as goal

pub returns-in-len1-up : goal.returns-in-len1-up
returns-in-len1-up g c =
    extends_same _ _ _ _ _ _ _ _ (items_whole c.args.strings.now c.args.symbols.now c.args.rule.now c.args.items.now _ c.in-len1-up.len_at_least) (extends_then _ _ c.add_item-begun.ensures c.add_further.ensures)
