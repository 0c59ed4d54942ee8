use Rattle.std.specs.Prelude.{sum_by}
use Rattle.std.proofs.Common.{take}
use Rattle.lido_syntax.specs.declared.spec.RuleItem.{RuleItem}
use Rattle.table_faults.specs.Limits.{Counts, size_of}
use Rattle.table_faults.proofs.limits.rules_size.Given as goal

abbrev pub invariant-loop-rule : goal.invariant-loop-rule
invariant-loop-rule l = Counts (sum_by (λ (r : RuleItem). sum_by size_of r.body) (take l.rule-index l.rules)) l.size
