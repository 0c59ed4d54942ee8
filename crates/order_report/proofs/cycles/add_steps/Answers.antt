use Rattle.order_report.specs.CycleLines.{step_text}
use Rattle.order_report.proofs.PutsLemmas.{extends_all, extends_more}
use Rattle.order_report.proofs.cycles.add_steps.Goals as goal

pub loop-step-preserved : goal.loop-step-preserved
loop-step-preserved g c =
    extends_more _ _ (step_text c.args.strings.now c.args.names.now c.args.occs.now) c.args.steps.now c.loop-step.step-index _ c.loop-step-test.true c.loop-step.invariant c.add_step-written.ensures

pub returns : goal.returns
returns g c = extends_all _ _ (step_text c.args.strings.now c.args.names.now c.args.occs.now) c.args.steps.now c.loop-step.step-index c.loop-step-test.false c.loop-step.invariant
