use Rattle.std.proofs.Common.{◌≡◌, ℕ}
use Rattle.lido_base.specs.Environment.{Environment}
use Rattle.lido_syntax.specs.declared.spec.RuleItem.{RuleItem}
use Rattle.rule_tables.specs.declared.table.Tables.{Tables}
use Rattle.rule_tables.specs.PlainRules.{PlainRule}
use Rattle.symbol_inherit.specs.Rules.{HasRuleAt}
use Rattle.symbol_inherit.specs.Entries.{chain_kind, AreKnown, AreUpTo, IsOccurrenceOf}
use Rattle.symbol_inherit.proofs.entries.push_chains.Given as goal

abbrev pub invariant-loop-place : goal.invariant-loop-place
invariant-loop-place l = (env : Environment) (t : Tables) (p : PlainRule) (r : RuleItem) (s : ℕ) → AreKnown env t l.symbols → HasRuleAt t.spec r 0 l.rule
    → IsOccurrenceOf t p r 0 s l.x → t.spec.chains ≡ l.chains → AreUpTo t p (chain_kind l.is_behind) 0 0 l.initial.entries.items
    → AreUpTo t p (chain_kind l.is_behind) 0 l.place l.entries.items
