use Rattle.std.proofs.Common.{length, ap, List, ℕ, ◌∙◌}
use Rattle.table_faults.proofs.LimitsLemmas.{plain-single, plain-list}
use Rattle.table_faults.proofs.limits.plain_rules.Goals as goal

pub returns-then-not-rule : goal.returns-then-not-rule
returns-then-not-rule c = λ spec env. plain-single spec env c.args.rule.now c.if-not-rule.true

pub returns : goal.returns
returns c = λ spec env. plain-list spec env c.args.rule.now c.if-not-rule.false c.len.result c.saturating_add.result (c.len.ensures ∙ ap (λ (l : List ℕ). length l) c.in_ok-elements.ensures) c.saturating_add.ensures
