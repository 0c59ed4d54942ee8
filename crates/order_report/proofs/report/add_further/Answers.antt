use Rattle.std.proofs.Common.{◌++◌, codes}
use Rattle.flat_grammar.specs.declared.plan.PlanItem.{PlanItem}
use Rattle.order_report.specs.Report.{item_text}
use Rattle.order_report.proofs.PutsLemmas.{extends_all, extends_more, extends_then}
use Rattle.order_report.proofs.report.add_further.Goals as goal

pub loop-item-preserved : goal.loop-item-preserved
loop-item-preserved g c =
    extends_more _ _ (λ (item : PlanItem). codes "; " ++ item_text c.args.strings.now c.args.symbols.now c.args.rule.now item) c.args.items.now c.loop-item.item-index _ c.loop-item-test.true c.loop-item.invariant
    (extends_then _ _ c.add-between.ensures c.add_item-written.ensures)

pub returns : goal.returns
returns g c =
    extends_all _ _ (λ (item : PlanItem). codes "; " ++ item_text c.args.strings.now c.args.symbols.now c.args.rule.now item) c.args.items.now c.loop-item.item-index c.loop-item-test.false c.loop-item.invariant
