use Rattle.std.proofs.Common.{◌≡◌, ◌+◌}
use Rattle.lido_base.specs.Environment.{Environment}
use Rattle.lido_syntax.specs.declared.spec.RuleItem.{RuleItem}
use Rattle.rule_tables.specs.declared.table.Tables.{Tables}
use Rattle.rule_tables.specs.PlainRules.{PlainRule}
use Rattle.symbol_inherit.specs.Rules.{HasRule}
use Rattle.symbol_inherit.specs.Entries.{AreKnown, AreUpTo, HasRightSide}
use Rattle.symbol_inherit.proofs.entries.push_right_side.Given as goal

abbrev pub invariant-loop-k : goal.invariant-loop-k
invariant-loop-k l = (env : Environment) (t : Tables) (p : PlainRule) (r : RuleItem) → AreKnown env t l.symbols → HasRule t.spec r l.rule
    → t.symbols ≡ l.rows → HasRightSide t p r l.right → AreUpTo t p 0 1 0 l.initial.entries.items → AreUpTo t p 0 (l.k + 1) 0 l.entries.items
