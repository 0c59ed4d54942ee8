use Rattle.std.proofs.Common.{◌≡◌, ◌+◌, ◌<◌, ◌≤◌, ℕ}
use Rattle.lido_base.specs.Environment.{Environment}
use Rattle.lido_syntax.specs.declared.spec.RuleItem.{RuleItem}
use Rattle.rule_tables.specs.declared.table.Tables.{Tables}
use Rattle.rule_tables.specs.Needs.{Tables as Numbered}
use Rattle.rule_tables.specs.InForceFaults.{IsMissing}
use Rattle.symbol_inherit.specs.Rules.{HasRule}
use Rattle.symbol_inherit.specs.Entries.{AreKnown}
use Rattle.symbol_inherit.specs.Clashes.{AreNumbersIn}
use Rattle.symbol_inherit.specs.Places.{AreRightPlaces}
use Rattle.symbol_inherit.proofs.missing.missing_on_right_side.Given as goal

abbrev pub invariant-loop-k : goal.invariant-loop-k
invariant-loop-k l = (env : Environment) (t : Tables) (T : Numbered t.spec) (r : RuleItem) (i : ℕ) → AreKnown env t l.symbols → AreNumbersIn t T → HasRule t.spec r l.rule
    → t.symbols ≡ l.rows → AreRightPlaces t r i l.right → (o a : ℕ) → 1 ≤ o → o < l.k + 1 → ¬ IsMissing t.spec T i o a
