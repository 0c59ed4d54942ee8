use Rattle.lido_syntax.specs.declared.spec.RuleItem.{RuleItem}
use Rattle.kind_clashes.specs.Least.{IsFirst, Among}
use Rattle.kind_clashes.proofs.LeastLemmas.{AmongFirst}
use Rattle.kind_clashes.specs.Sides.{IsRuleCompClash}
use Rattle.kind_clashes.proofs.bodies.clash_in_rules.Given as goal

-- the least place so far
abbrev pub invariant-loop-rule : goal.invariant-loop-rule
invariant-loop-rule l = IsFirst (AmongFirst (λ (r : RuleItem). Among (IsRuleCompClash l.sets r l.strings) r.body) l.rules l.rule-index) l.least
