-- The symbols of tables with their numbers.
use Rattle.std.specs.Prelude.{◌≡◌, length}
use Rattle.rule_tables.specs.declared.table.Tables.{Tables}
use Rattle.rule_tables.specs.TablesOf.{named_symbols}
use Rattle.symbol_inherit.specs.Classes.{AreHeirs}
use Rattle.symbol_inherit.specs.Symbols.{HasOwn}
use Rattle.symbol_inherit.specs.declared.symbols.Symbols.{Symbols}

-- the rows of heirs, the index of bodies and the count are those of the tables
pub record AreSymbols (t : Tables) (symbols : Symbols) : Type 0 where
  pub heirs : AreHeirs t symbols.classes
  pub owns : HasOwn t symbols.index
  pub count : length (named_symbols t) ≡ symbols.count
