use Rattle.std.proofs.Common.{◌≡◌, ◌<◌, ℕ, Some}
use Rattle.std.specs.Prelude.{slice_get}
use Rattle.lido_base.specs.Environment.{Environment}
use Rattle.flat_grammar.specs.declared.flat.FlatAttr.{FlatAttr}
use Rattle.computation_aims.specs.Aims.{goal_of}
use Rattle.rule_tables.specs.declared.table.Tables.{Tables}
use Rattle.rule_tables.specs.Needs.{Tables as Numbered}
use Rattle.rule_tables.specs.TablesOf.{named_symbols}
use Rattle.symbol_inherit.specs.Entries.{AreKnown}
use Rattle.symbol_inherit.specs.Clashes.{kind_aim, AreTwoLeft}
use Rattle.symbol_inherit.proofs.clashes.attribute_clash.Given as goal

abbrev pub invariant-loop-attr : goal.invariant-loop-attr
invariant-loop-attr l = (env : Environment) (t : Tables) (T : Numbered t.spec) (s : ℕ) → AreKnown env t l.symbols → slice_get (named_symbols t) l.x ≡ Some s
    → (j : ℕ) (attr : FlatAttr) → j < l.attr-index → slice_get l.attrs j ≡ Some attr → ¬ AreTwoLeft t.spec T s (goal_of (kind_aim attr.kind attr.name))
