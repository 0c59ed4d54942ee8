use Rattle.std.proofs.Common.{arith, ap, length}
use Rattle.core_machine.proofs.EvaluationLemmas.{goal-absent}
use Rattle.region_engine.proofs.sites.computation.Goals as goal

pub returns-clause-none : goal.returns-clause-none
returns-clause-none c = goal-absent c.args.rule.now.comps c.args.goal
    (λ k d h e. let n = ap length c.as_slice-comp-items.ensures in c.loop-comp.invariant k d (omega (arith, h, n, c.loop-comp-test.false)) e)
