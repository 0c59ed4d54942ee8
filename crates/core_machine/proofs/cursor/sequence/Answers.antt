use Rattle.std.proofs.Common.{◌≡◌, sym, subst, ◌∙◌, length, ◌<◌, Some}
use Rattle.lido_base.specs.Tree.{rule_at}
use Rattle.core_machine.proofs.CursorReads.{seq-there, seq-is}
use Rattle.core_machine.proofs.cursor.sequence.Goals as goal

pub bounds-as_slice-rule : goal.bounds-as_slice-rule
bounds-as_slice-rule c =
    let at = subst (λ t. rule_at t c.args.node ≡ Some c.rule-rule.result.0) c.trees.ensures.flat c.rule-rule.ensures in
    let h = seq-there c.args.job.now c.facts.ensures c.args.node c.rule-rule.result.0 c.requires at in
    subst (λ l. c.rule-rule.result.0 < length l) (sym (c.as_slice.ensures ∙ c.plan.ensures.sequences)) h

pub returns : goal.returns
returns c =
    let at = subst (λ t. rule_at t c.args.node ≡ Some c.rule-rule.result.0) c.trees.ensures.flat c.rule-rule.ensures in
    c.as_slice-2.ensures
    ∙ seq-is c.args.job.now c.facts.ensures c.args.node c.rule-rule.result.0 c.as_slice.result.now c.index-as_slice-rule.result c.index-as_slice-rule.result c.requires at
    (c.as_slice.ensures ∙ c.plan.ensures.sequences) c.index-as_slice-rule.is
