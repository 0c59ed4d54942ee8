use Rattle.std.proofs.Common.{◌≡◌, ◌<◌, ◌+◌, ℕ, Some}
use Rattle.std.specs.Prelude.{slice_get}
use Rattle.lido_base.specs.Environment.{Environment}
use Rattle.flat_grammar.specs.declared.flat.FlatAttr.{FlatAttr}
use Rattle.lido_syntax.specs.declared.spec.RuleItem.{RuleItem}
use Rattle.rule_tables.specs.declared.table.Tables.{Tables}
use Rattle.rule_tables.specs.Needs.{Tables as Numbered}
use Rattle.rule_tables.specs.InForceFaults.{IsMissing}
use Rattle.symbol_inherit.specs.Rules.{HasRuleAt}
use Rattle.symbol_inherit.specs.Entries.{attrs_at, AreKnown}
use Rattle.symbol_inherit.specs.Places.{IsPlaceIn}
use Rattle.symbol_inherit.proofs.missing.missing_right.Given as goal

abbrev pub invariant-loop-attr : goal.invariant-loop-attr
invariant-loop-attr l = (env : Environment) (t : Tables) (T : Numbered t.spec) (r : RuleItem) (i k s : ℕ) → AreKnown env t l.symbols → HasRuleAt t.spec r l.occ l.rule
    → IsPlaceIn t r i l.occ s l.x → l.occ ≡ k + 1 → attrs_at t.symbols l.x ≡ l.attrs
    → (j : ℕ) (attr : FlatAttr) → j < l.attr-index → slice_get l.attrs j ≡ Some attr → ¬ IsMissing t.spec T i l.occ attr.name.0
