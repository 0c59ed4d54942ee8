use Rattle.std.proofs.Common.{◌≡◌, ◌+◌, ℕ, take, length, filter}
use Rattle.lido_syntax.specs.declared.spec.RuleItem.{RuleItem}
use Rattle.lido_syntax.specs.Computation.{is_message}
use Rattle.lido_syntax.specs.Completeness.{IsSingle}
use Rattle.rule_tables.specs.declared.table.Tables.{Tables}
use Rattle.rule_tables.specs.PlainRules.{PlainRule}
use Rattle.symbol_inherit.specs.Entries.{AreUpTo, IsOccurrenceOf}
use Rattle.symbol_inherit.proofs.entries.push_messages.Given as goal

abbrev pub invariant-loop-comp : goal.invariant-loop-comp
invariant-loop-comp l = record {
  count : l.count ≡ length (filter is_message (take l.comp-index l.body));
  filled : (t : Tables) (p : PlainRule) (r : RuleItem) (s x : ℕ) → IsSingle t.spec → IsOccurrenceOf t p r 0 s x → r.body ≡ l.body
      → AreUpTo t p 4 0 0 l.initial.entries.items → AreUpTo t p 4 0 (l.count + 1) l.entries.items;
}
