use Rattle.std.proofs.Common.{◌<◌, ℕ}
use Rattle.lido_base.specs.Environment.{Environment}
use Rattle.computation_aims.specs.Aims.{AreChains}
use Rattle.kind_clashes.specs.Sets.{AreNameSets}
use Rattle.rule_tables.specs.Needs.{Tables as Numbered}
use Rattle.rule_tables.specs.InForceFaults.{IsMissing}
use Rattle.symbol_inherit.specs.Entries.{AreKnown}
use Rattle.symbol_inherit.specs.Clashes.{AreNumbersIn}
use Rattle.symbol_inherit.proofs.missing.first_missing.Given as goal

abbrev pub invariant-loop-i : goal.invariant-loop-i
invariant-loop-i l = (env : Environment) (T : Numbered l.tables.spec) → AreKnown env l.tables l.symbols → AreNumbersIn l.tables T → AreChains l.tables.spec l.chains
    → AreNameSets l.tables.spec l.sets → (j o a : ℕ) → j < l.i → ¬ IsMissing l.tables.spec T j o a
