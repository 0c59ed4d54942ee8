use Rattle.std.proofs.Common.{take}
use Rattle.std.specs.List.{AllZip}
use Rattle.lido_base.specs.Environment.{Environment}
use Rattle.computation_aims.specs.Aims.{AreChains}
use Rattle.rule_tables.specs.PlainRules.{plain_rules}
use Rattle.rule_tables.specs.TablesOf.{named_symbols}
use Rattle.rule_tables.specs.ForcedOf.{AreEntriesOf}
use Rattle.symbol_inherit.specs.Entries.{AreKnown}
use Rattle.symbol_inherit.proofs.rule_entries.all_entries.Given as goal

abbrev pub invariant-loop-k : goal.invariant-loop-k
invariant-loop-k l = (env : Environment) → AreKnown env l.tables l.symbols → AreChains l.tables.spec l.chains
    → AllZip (AreEntriesOf l.tables) (take l.k (plain_rules l.tables.spec (named_symbols l.tables))) l.all.items
