-- The names of symbols and cells by their numbers.
use Rattle.std.specs.Prelude.{ℕ, List, Some, None, slice_get}
use Rattle.lido_base.specs.declared.ids.StrId.{StrId}
use Rattle.rule_tables.specs.declared.table.SymbolRow.{SymbolRow}

abbrev pub name_in : List SymbolRow → ℕ → StrId
name_in rows x = elim (slice_get rows x) [ None ↦ record { 0 = 0 } | Some row ↦ row.name ]
