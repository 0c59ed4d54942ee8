use Rattle.std.specs.Prelude.{slice_get}
use Rattle.std.proofs.Common.{◌≡◌, ℕ, ◌<◌, Some, None}
use Rattle.rule_tables.specs.declared.table.SymbolRow.{SymbolRow}
use Rattle.including_sets.specs.Types.{type_by}
use Rattle.including_sets.proofs.types.listed_type.Given as goal

-- the rows so far have none
abbrev pub invariant-loop-row : goal.invariant-loop-row
invariant-loop-row l = (k : ℕ) → k < l.row-index → (row : SymbolRow) → slice_get l.rows k ≡ Some row → type_by l.symbols l.pairs row ≡ None
