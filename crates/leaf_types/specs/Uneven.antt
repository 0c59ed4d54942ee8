-- Attributes of classes that have another type on a nonterminal that inherits the class.
use Rattle.std.specs.Prelude.{◌≡◌, ℕ, List, Some, IsTrue}
use Rattle.lido_base.specs.declared.value.ValueType.{ValueType}
use Rattle.flat_grammar.specs.declared.flat.FlatAttr.{FlatAttr}
use Rattle.rule_tables.specs.declared.table.SymbolRow.{SymbolRow}
use Rattle.rule_tables.specs.declared.table.SymbolClass.TheVariants as class
use Rattle.leaf_types.specs.declared.attributes.AttributeTypes.{AttributeTypes}
use Rattle.leaf_types.specs.declared.heirs.Heirs.{Heirs}
use Rattle.leaf_types.specs.Tables.{type_of_attribute, OfSome}
use Rattle.leaf_types.specs.Entries.{IsAttribute}
use Rattle.leaf_types.specs.Heirs.{inherits}

-- an attribute of the class that hasn't its type on the heir
abbrev pub IsOther : AttributeTypes → ℕ → ℕ → FlatAttr → ℕ × ℕ → ValueType → Type 0
IsOther types heir class attr k ty = IsAttribute class attr k ty × ¬ (type_of_attribute types (heir, attr.name.0) ≡ Some attr.ty)

-- one of the row's symbol, if the heir inherits that
abbrev pub IsOtherOnClass : AttributeTypes → Heirs → ℕ → SymbolRow → ℕ × ℕ → ValueType → Type 0
IsOtherOnClass types heirs heir row k ty = IsTrue (inherits heirs heir row.name.0) × OfSome (IsOther types heir row.name.0) row.attrs k ty

-- one of these rows, if the heir's row is that of a nonterminal
abbrev pub IsOtherOnHeir : AttributeTypes → Heirs → List SymbolRow → SymbolRow → ℕ × ℕ → ValueType → Type 0
IsOtherOnHeir types heirs rows row k ty = (row.class ≡ class.Nonterminal) × OfSome (IsOtherOnClass types heirs row.name.0) rows k ty
