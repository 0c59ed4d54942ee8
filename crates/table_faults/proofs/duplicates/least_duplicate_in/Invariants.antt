use Rattle.std.proofs.Common.{◌≡◌}
use Rattle.lido_syntax.specs.declared.spec.RuleItem.{RuleItem}
use Rattle.kind_clashes.specs.Least.{IsFirst}
use Rattle.kind_clashes.specs.Names.{HasMore}
use Rattle.kind_clashes.proofs.LeastLemmas.{AmongFirst}
use Rattle.table_faults.proofs.DuplicatesLemmas.{IsDuplicateFirst}
use Rattle.table_faults.proofs.duplicates.least_duplicate_in.Given as goal

-- the names so far, and the least place so far
abbrev pub invariant-loop-rule : goal.invariant-loop-rule
invariant-loop-rule l = record {
  seen : HasMore (AmongFirst (λ (q : RuleItem) id. q.name.0 ≡ id) l.rules l.rule-index) l.initial.seen l.seen;
  least : IsFirst (IsDuplicateFirst l.rules l.rule-index) l.least;
}
