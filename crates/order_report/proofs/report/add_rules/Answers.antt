use Rattle.std.proofs.Common.{ℕ, List, ap, arith}
use Rattle.flat_grammar.specs.declared.flat.FlatRule.{FlatRule}
use Rattle.flat_grammar.specs.declared.plan.PlanItem.{PlanItem}
use Rattle.order_report.specs.Report.{row_of, rule_line}
use Rattle.order_report.proofs.PutsLemmas.{extends_numbered, extends_same, numbered_all}
use Rattle.order_report.proofs.report.add_rules.Goals as goal

pub loop-k-preserved : goal.loop-k-preserved
loop-k-preserved g c =
    extends_numbered _ _ (λ (k : ℕ) (r : FlatRule). rule_line c.args.strings.now c.args.symbols.now r (row_of c.args.seqs.now k)) 0 c.args.rules.now c.loop-k.k c.loop-k.k c.index-rules-k.result c.loop-k-test.true (omega arith) c.index-rules-k.is c.loop-k.invariant
    (extends_same _ _ _ _ _ _ _ _ (ap (λ (seq : List PlanItem). rule_line c.args.strings.now c.args.symbols.now c.index-rules-k.result seq) c.row_of.ensures) c.add_rule-written.ensures)

pub returns : goal.returns
returns g c =
    numbered_all _ _ (λ (k : ℕ) (r : FlatRule). rule_line c.args.strings.now c.args.symbols.now r (row_of c.args.seqs.now k)) 0 c.args.rules.now c.loop-k.k c.loop-k-test.false c.loop-k.invariant
