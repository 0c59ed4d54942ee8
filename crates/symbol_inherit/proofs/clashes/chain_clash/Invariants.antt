use Rattle.std.proofs.Common.{◌≡◌, ◌<◌, ℕ, Some}
use Rattle.std.specs.Prelude.{slice_get}
use Rattle.lido_base.specs.Environment.{Environment}
use Rattle.lido_syntax.specs.declared.spec.Typed1.{Typed1}
use Rattle.computation_aims.specs.Aims.{goal_of}
use Rattle.rule_tables.specs.declared.table.Tables.{Tables}
use Rattle.rule_tables.specs.Needs.{Tables as Numbered}
use Rattle.rule_tables.specs.TablesOf.{named_symbols}
use Rattle.symbol_inherit.specs.Entries.{chain_way, AreKnown}
use Rattle.symbol_inherit.specs.Clashes.{AreTwoLeft}
use Rattle.symbol_inherit.proofs.clashes.chain_clash.Given as goal

abbrev pub invariant-loop-chain : goal.invariant-loop-chain
invariant-loop-chain l = (env : Environment) (t : Tables) (T : Numbered t.spec) (s : ℕ) → AreKnown env t l.symbols → slice_get (named_symbols t) l.x ≡ Some s
    → (j : ℕ) (d : Typed1) → j < l.chain-index → slice_get l.chains j ≡ Some d → ¬ AreTwoLeft t.spec T s (goal_of (record { way = chain_way l.is_behind; name = d.name.id }))
