use Rattle.std.proofs.Common.{◌∙◌, ap, arith, length, get_or}
use Rattle.core_machine.proofs.SizeLemmas.{each-more, each-all, lighter-rules, IsLightRule}
use Rattle.region_engine.proofs.sizes.stack_room.Goals as goal

pub loop-rule-preserved : goal.loop-rule-preserved
loop-rule-preserved c =
    let same = c.as_slice-rule-items.ensures ∙ c.flat.ensures.rules in
    let n = ap length same in
    each-more (IsLightRule c.in_ok-most.most) c.args.job.now.rules c.loop-rule.rule-index c.rule-item.result
    (lighter-rules c.args.job.now.rules c.loop-rule.rule-index c.loop-rule.most c.in_ok-most.most c.loop-rule.invariant c.in_ok-most.ensures.least)
    (omega (arith, n, c.loop-rule-test.true)) (c.rule-item.is ∙ ap (λ l. get_or l c.loop-rule.rule-index c.rule-item.result) same) c.in_ok-most.ensures.all

pub returns : goal.returns
returns c = λ r comp m among.
    let n = ap length (c.as_slice-rule-items.ensures ∙ c.flat.ensures.rules) in
    each-all (IsLightRule c.loop-rule.most) c.args.job.now.rules c.loop-rule.rule-index c.loop-rule.invariant (omega (arith, n, c.loop-rule-test.false)) r m comp among
