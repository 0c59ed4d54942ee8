use Rattle.lido_base.specs.Environment.{Environment}
use Rattle.rule_tables.specs.Needs.{Tables as Numbered}
use Rattle.symbol_inherit.specs.Entries.{AreKnown}
use Rattle.symbol_inherit.specs.Clashes.{AreNumbersIn, HasNoClashBelow}
use Rattle.symbol_inherit.proofs.clashes.first_clash.Given as goal

abbrev pub invariant-loop-x : goal.invariant-loop-x
invariant-loop-x l = (env : Environment) (T : Numbered l.tables.spec) → AreKnown env l.tables l.symbols → AreNumbersIn l.tables T → HasNoClashBelow l.tables T l.x
