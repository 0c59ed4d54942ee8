use Rattle.std.proofs.Common.{◌≡◌, ◌<◌, ◌∙◌, sym, subst, length, Some}
use Rattle.lido_base.specs.Tree.{rule_at}
use Rattle.core_machine.proofs.SiteLemmas.{rule-there}
use Rattle.region_engine.proofs.sites.rule_at.Goals as goal

pub bounds-as_slice-rule : goal.bounds-as_slice-rule
bounds-as_slice-rule c =
    let at = subst (λ t. rule_at t c.args.node ≡ Some c.rule-rule.result.0) c.trees.ensures.flat c.rule-rule.ensures in
    let h = (rule-there c.args.job.now c.facts.ensures c.args.node c.requires c.rule-rule.result.0 at).0 in
    subst (λ l. c.rule-rule.result.0 < length l) (sym (c.as_slice.ensures ∙ c.flat.ensures.rules)) h

pub returns : goal.returns
returns c =
    let at = subst (λ t. rule_at t c.args.node ≡ Some c.rule-rule.result.0) c.trees.ensures.flat c.rule-rule.ensures in
    (rule-there c.args.job.now c.facts.ensures c.args.node c.requires c.rule-rule.result.0 at).1 c.as_slice.result.now c.index-as_slice-rule.result c.index-as_slice-rule.result
    (c.as_slice.ensures ∙ c.flat.ensures.rules) c.index-as_slice-rule.is
