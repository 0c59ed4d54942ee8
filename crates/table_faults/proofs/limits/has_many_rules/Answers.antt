use Rattle.std.proofs.Common.{arith, refl, inl}
use Rattle.table_faults.specs.Faults.{plain_count}
use Rattle.table_faults.proofs.LimitsLemmas.{counts-step, counts-end, counts-more}
use Rattle.table_faults.proofs.limits.has_many_rules.Goals as goal

pub loop-rule-init : goal.loop-rule-init
loop-rule-init c = λ spec env. inl refl

pub loop-rule-preserved : goal.loop-rule-preserved
loop-rule-preserved c = λ spec env. counts-step (plain_count spec env) c.args.rules.now c.loop-rule.rule-index c.rule-item.result c.rule-item.result c.loop-rule.count _ _ c.loop-rule-test.true c.rule-item.is (c.loop-rule.invariant spec env)
    (c.in_ok-plain_rules.ensures spec env) c.saturating_add-count.ensures

pub returns : goal.returns
returns c = λ spec env. counts-more 1024 _ c.loop-rule.count (omega arith) (counts-end (plain_count spec env) c.args.rules.now c.loop-rule.rule-index c.loop-rule.count (omega arith) (c.loop-rule.invariant spec env))
