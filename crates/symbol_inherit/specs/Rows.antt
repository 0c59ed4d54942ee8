-- Symbols by their rows.
use Rattle.std.specs.Prelude.{ℕ, Bool, false, nat_eq, List, Option, Some, None, slice_get, position}
use Rattle.lido_base.specs.declared.ids.StrId.{StrId}
use Rattle.rule_tables.specs.declared.table.SymbolRow.{SymbolRow}
use Rattle.rule_tables.specs.declared.table.SymbolClass.{SymbolClass}
use Rattle.rule_tables.specs.declared.table.SymbolClass.TheVariants as class

-- the row of a symbol that is this and has this name is that of s
abbrev pub is_of : SymbolClass → ℕ → ℕ → Bool
is_of class.Cell name s = false
is_of _ name s = nat_eq name s

-- the row is that of the symbol
abbrev pub is_named : ℕ → SymbolRow → Bool
is_named s row = is_of row.class row.name.0 s

-- the number of the symbol
abbrev pub row_number : List SymbolRow → ℕ → Option ℕ
row_number rows s = position (is_named s) rows

-- the name of the symbol with this number
abbrev pub name_of : Option SymbolRow → StrId
name_of None = record { 0 = 0 }
name_of (Some row) = row.name

abbrev pub name_in : List SymbolRow → ℕ → StrId
name_in rows x = name_of (slice_get rows x)
