use Rattle.std.proofs.Common.{◌≡◌, ◌≤◌, length, filter, take}
use Rattle.lido_syntax.specs.declared.spec.RuleItem.{RuleItem}
use Rattle.table_faults.proofs.limits.list_count.Given as goal

abbrev pub invariant-loop-rule : goal.invariant-loop-rule
invariant-loop-rule l = record {
  count : l.count ≡ length (filter (λ (r : RuleItem). r.list) (take l.rule-index l.rules));
  few : l.count ≤ l.rule-index;
}
