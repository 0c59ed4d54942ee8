use Rattle.std.proofs.Common.{◌≡◌, ◌<◌, ◌↔◌, ℕ, Some}
use Rattle.std.specs.Prelude.{IsTrue, slice_get}
use Rattle.lido_base.specs.Environment.{Environment}
use Rattle.flat_grammar.specs.declared.flat.FlatAttr.{FlatAttr}
use Rattle.lido_syntax.specs.declared.spec.RuleItem.{RuleItem}
use Rattle.lido_syntax.specs.Production.{left_of}
use Rattle.lido_syntax.specs.Symbols.{IsRoot}
use Rattle.rule_tables.specs.declared.table.Tables.{Tables}
use Rattle.rule_tables.specs.Needs.{Tables as Numbered}
use Rattle.rule_tables.specs.InForceFaults.{IsMissing}
use Rattle.symbol_inherit.specs.Rules.{HasRuleAt}
use Rattle.symbol_inherit.specs.Entries.{attrs_at, AreKnown}
use Rattle.symbol_inherit.specs.Places.{IsPlaceIn}
use Rattle.symbol_inherit.proofs.missing.missing_left.Given as goal

abbrev pub invariant-loop-attr : goal.invariant-loop-attr
invariant-loop-attr l = (env : Environment) (t : Tables) (T : Numbered t.spec) (r : RuleItem) (i s : ℕ) → AreKnown env t l.symbols → HasRuleAt t.spec r 0 l.rule
    → IsPlaceIn t r i 0 s l.x → IsTrue l.is_root ↔ IsRoot t.spec (left_of r) → attrs_at t.symbols l.x ≡ l.attrs
    → (j : ℕ) (attr : FlatAttr) → j < l.attr-index → slice_get l.attrs j ≡ Some attr → ¬ IsMissing t.spec T i 0 attr.name.0
