-- The types of what goals are about, by the tables.
use Rattle.std.specs.Prelude.{◌≡◌, ℕ, Some, slice_get}
use Rattle.lido_base.specs.declared.ids.AttrId.{AttrId}
use Rattle.lido_base.specs.declared.value.ValueType.{ValueType}
use Rattle.flat_grammar.specs.declared.flat.FlatAttr.{FlatAttr}
use Rattle.lido_syntax.specs.declared.spec.Typed1.{Typed1}
use Rattle.rule_tables.specs.declared.table.Tables.{Tables}
use Rattle.rule_tables.specs.declared.table.SymbolRow.{SymbolRow}

-- the attribute of that number in the row of the symbol has this type
abbrev pub IsAttributeType : Tables → ℕ → AttrId → ValueType → Type 0
IsAttributeType t x id ty = (row : SymbolRow) × (attr : FlatAttr) × (slice_get t.symbols x ≡ Some row) × (slice_get row.attrs id.0 ≡ Some attr) × (attr.ty ≡ ty)

-- the chain that is declared at this place has this type
abbrev pub IsChainType : Tables → ℕ → ValueType → Type 0
IsChainType t i ty = (d : Typed1) × (slice_get t.spec.chains i ≡ Some d) × (d.ty ≡ ty)
