use Rattle.std.proofs.Common.{◌≡◌, ℕ}
use Rattle.lido_base.specs.Environment.{Environment}
use Rattle.lido_syntax.specs.declared.spec.RuleItem.{RuleItem}
use Rattle.rule_tables.specs.declared.table.Tables.{Tables}
use Rattle.rule_tables.specs.PlainRules.{PlainRule}
use Rattle.symbol_inherit.specs.Rules.{HasRuleAt}
use Rattle.symbol_inherit.specs.Entries.{attrs_at, AreKnown, AreUpTo, IsOccurrenceOf}
use Rattle.symbol_inherit.proofs.entries.push_attributes.Given as goal

abbrev pub invariant-loop-id : goal.invariant-loop-id
invariant-loop-id l = (env : Environment) (t : Tables) (p : PlainRule) (r : RuleItem) (s : ℕ) → AreKnown env t l.symbols → HasRuleAt t.spec r l.occ l.rule
    → IsOccurrenceOf t p r l.occ s l.x → attrs_at t.symbols l.x ≡ l.attrs → AreUpTo t p 0 l.occ 0 l.initial.entries.items → AreUpTo t p 0 l.occ l.id l.entries.items
