use Rattle.std.proofs.Common.{ℕ, List, ap, arith}
use Rattle.flat_grammar.specs.declared.flat.FlatSymbol.{FlatSymbol}
use Rattle.flat_grammar.specs.declared.plan.VisitClass.{VisitClass}
use Rattle.order_report.specs.Report.{row_of, visit_lines}
use Rattle.order_report.proofs.PutsLemmas.{extends_numbered, extends_same, numbered_all}
use Rattle.order_report.proofs.report.add_symbols.Goals as goal

pub loop-k-preserved : goal.loop-k-preserved
loop-k-preserved g c =
    extends_numbered _ _ (λ (k : ℕ) (x : FlatSymbol). visit_lines c.args.strings.now x (row_of c.args.visits.now k)) 0 c.args.symbols.now c.loop-k.k c.loop-k.k c.index-symbols-k.result c.loop-k-test.true (omega arith) c.index-symbols-k.is c.loop-k.invariant
    (extends_same _ _ _ _ _ _ _ _ (ap (λ (row : List VisitClass). visit_lines c.args.strings.now c.index-symbols-k.result row) c.row_of.ensures) c.add_visits-written.ensures)

pub returns : goal.returns
returns g c =
    numbered_all _ _ (λ (k : ℕ) (x : FlatSymbol). visit_lines c.args.strings.now x (row_of c.args.visits.now k)) 0 c.args.symbols.now c.loop-k.k c.loop-k-test.false c.loop-k.invariant
