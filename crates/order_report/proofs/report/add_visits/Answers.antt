use Rattle.std.proofs.Common.{◌+◌, ℕ, arith}
use Rattle.flat_grammar.specs.declared.plan.VisitClass.{VisitClass}
use Rattle.order_report.specs.Report.{visit_line}
use Rattle.order_report.proofs.PutsLemmas.{extends_numbered, numbered_all}
use Rattle.order_report.proofs.report.add_visits.Goals as goal

pub loop-place-preserved : goal.loop-place-preserved
loop-place-preserved g c =
    extends_numbered _ _ (λ (v : ℕ) (class : VisitClass). visit_line c.args.strings.now c.args.symbol.now v class) 1 c.args.row.now c.loop-place.place (c.loop-place.place + 1) c.index-row-place.result c.loop-place-test.true (omega arith) c.index-row-place.is c.loop-place.invariant c.add_visit-written.ensures

pub returns : goal.returns
returns g c =
    numbered_all _ _ (λ (v : ℕ) (class : VisitClass). visit_line c.args.strings.now c.args.symbol.now v class) 1 c.args.row.now c.loop-place.place c.loop-place-test.false c.loop-place.invariant
