use Rattle.std.proofs.Common.{sum_by}
use Rattle.std.specs.Prelude.{min}
use Rattle.flat_grammar.specs.Fitting.{cells}
use Rattle.flat_grammar.specs.declared.flat.FlatComp.{FlatComp}
use Rattle.flat_grammar.specs.declared.flat.FlatRule.{FlatRule}
use Rattle.tree_flattener.proofs.CountLemmas.{map_next}
use Rattle.tree_flattener.proofs.TableLemmas.{item_at}
use Rattle.tree_flattener.proofs.counts.cells_by_rule.Goals as goal

pub loop-rule-preserved : goal.loop-rule-preserved
loop-rule-preserved c = map_next (λ (r : FlatRule). min (sum_by (λ (c : FlatComp). cells c.value) r.comps) 16777217) c.args.flat.now.rules c.loop-rule.rule-index c.rule-item.result
    (item_at c.as_slice-rule-items.result.now c.args.flat.now.rules c.loop-rule.rule-index c.rule-item.result c.as_slice-rule-items.ensures c.loop-rule-test.true c.rule-item.is)
    c.loop-rule.numbers.items c.push.new.self.items c.in_ok-cells.cells c.loop-rule.invariant c.in_ok-cells.ensures c.in_ok-push.ensures.items
