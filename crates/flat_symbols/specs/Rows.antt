-- The symbols of the flat grammar, as the tables tell them.
use Rattle.std.specs.Prelude.{◌≡◌, ℕ, List, Option, Some, None}
use Rattle.std.specs.List.{AllZip}
use Rattle.lido_base.specs.Environment.{Environment}
use Rattle.lido_base.specs.declared.value.ValueType.{ValueType}
use Rattle.lido_base.specs.declared.value.ValueType.TheVariants as type
use Rattle.flat_grammar.specs.declared.flat.FlatSymbol.{FlatSymbol}
use Rattle.rule_tables.specs.declared.table.SymbolRow.{SymbolRow}
use Rattle.rule_tables.specs.declared.table.SymbolClass.{SymbolClass}
use Rattle.rule_tables.specs.declared.table.SymbolClass.TheVariants as class
use Rattle.flat_slots.specs.declared.slot.Slot.{Slot}
use Rattle.flat_symbols.specs.declared.attributes.Added.{Added}
use Rattle.flat_symbols.specs.Attributes.{IsMade}

-- the type of a terminal or a class
abbrev pub terminal_of : SymbolClass → Option ValueType
terminal_of (class.Terminal ty) = Some ty
terminal_of class.Class = Some type.Void
terminal_of _ = None

-- the symbol of a row with these attributes, where chains have ids below that number
pub record IsSymbolOf (env : Environment) (limit : ℕ) (added : Added) (row : SymbolRow) (slots : List Slot) (symbol : FlatSymbol) : Type 0 where
  pub name : symbol.name ≡ row.name
  pub terminal : symbol.terminal ≡ terminal_of row.class
  pub attrs : AllZip (IsMade env limit added row.attrs) slots symbol.attrs
