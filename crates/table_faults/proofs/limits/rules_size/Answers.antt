use Rattle.std.specs.Prelude.{sum_by}
use Rattle.std.proofs.Common.{arith, refl, inl, subst, List}
use Rattle.lido_syntax.specs.declared.spec.Comp.{Comp}
use Rattle.lido_syntax.specs.declared.spec.RuleItem.{RuleItem}
use Rattle.table_faults.specs.Limits.{Counts, size_of}
use Rattle.table_faults.proofs.LimitsLemmas.{counts-step, counts-end}
use Rattle.table_faults.proofs.limits.rules_size.Goals as goal

pub loop-rule-init : goal.loop-rule-init
loop-rule-init c = inl refl

pub loop-rule-preserved : goal.loop-rule-preserved
loop-rule-preserved c = counts-step (λ (r : RuleItem). sum_by size_of r.body) c.args.rules.now c.loop-rule.rule-index c.rule-item.result c.rule-item.result c.loop-rule.size _ _ c.loop-rule-test.true c.rule-item.is c.loop-rule.invariant
    (subst (λ (body : List Comp). Counts (sum_by size_of body) c.in_ok-body_size.field-0) c.as_slice.ensures c.in_ok-body_size.ensures) c.saturating_add-size.ensures

pub returns : goal.returns
returns c = counts-end (λ (r : RuleItem). sum_by size_of r.body) c.args.rules.now c.loop-rule.rule-index c.loop-rule.size (omega arith) c.loop-rule.invariant
