-- What rows and declarations give types.
use Rattle.std.specs.Prelude.{◌≡◌, ℕ}
use Rattle.lido_base.specs.declared.value.ValueType.{ValueType}
use Rattle.flat_grammar.specs.declared.flat.FlatAttr.{FlatAttr}
use Rattle.lido_syntax.specs.declared.spec.Typed1.{Typed1}
use Rattle.lido_syntax.specs.Production.{name_of}
use Rattle.rule_tables.specs.declared.table.SymbolRow.{SymbolRow}
use Rattle.rule_tables.specs.declared.table.SymbolClass.TheVariants as class
use Rattle.leaf_types.specs.Tables.{OfSome}

-- an attribute of the symbol
abbrev pub IsAttribute : ℕ → FlatAttr → ℕ × ℕ → ValueType → Type 0
IsAttribute s attr k ty = (s ≡ k.0) × (attr.name.0 ≡ k.1) × (attr.ty ≡ ty)

-- a row's attributes, by its symbol and themselves
abbrev pub GivesAttribute : SymbolRow → ℕ × ℕ → ValueType → Type 0
GivesAttribute row = OfSome (IsAttribute row.name.0) row.attrs

-- a row's symbol, if it is a terminal
abbrev pub GivesTerminal : SymbolRow → ℕ → ValueType → Type 0
GivesTerminal row k ty = (row.name.0 ≡ k) × (row.class ≡ class.Terminal ty)

-- a chain's declaration
abbrev pub GivesChain : Typed1 → ℕ → ValueType → Type 0
GivesChain x k ty = (name_of x.name ≡ k) × (x.ty ≡ ty)
