use Rattle.lido_syntax.specs.declared.spec.RuleItem.{RuleItem}
use Rattle.kind_clashes.specs.Least.{IsFirst}
use Rattle.kind_clashes.proofs.LeastLemmas.{AmongFirst}
use Rattle.table_faults.specs.Doubles.{IsDoubleIn, all_in_rule}
use Rattle.table_faults.proofs.doubles.double_in_rules.Given as goal

-- the least place so far
abbrev pub invariant-loop-rule : goal.invariant-loop-rule
invariant-loop-rule l = IsFirst (AmongFirst (λ (r : RuleItem). IsDoubleIn (all_in_rule l.chains r)) l.rules l.rule-index) l.least
