-- What a CONSTITUENTS lists for the symbols, and which of them are its shields, as the tables tell it.
use Rattle.std.specs.Prelude.{ℕ, Bool, true, false, not, ◌||◌, ◌&&◌, nat_eq, if◌then◌else◌, List, find, Option, Some, None, option_map}
use Rattle.std.specs.List.{list_any}
use Rattle.lido_base.specs.declared.ids.StrId.{StrId}
use Rattle.lido_base.specs.declared.value.ValueType.{ValueType}
use Rattle.lido_base.specs.declared.value.ValueType.TheVariants as type
use Rattle.lido_syntax.specs.declared.spec.Name.{Name}
use Rattle.lido_syntax.specs.declared.spec.Pair.{Pair}
use Rattle.lido_syntax.specs.declared.spec.Spec.{Spec}
use Rattle.lido_syntax.specs.Production.{name_of}
use Rattle.indexmap.specs.IndexSet.{insert_key}
use Rattle.flat_grammar.specs.declared.flat.FlatAttr.{FlatAttr}
use Rattle.symbol_attributes.specs.Inheritance.{number, is_heir, IsInheritance}
use Rattle.rule_tables.specs.declared.table.SymbolRow.{SymbolRow}
use Rattle.rule_tables.specs.declared.table.SymbolClass.{SymbolClass}
use Rattle.rule_tables.specs.declared.table.SymbolClass.TheVariants as class
use Rattle.constituents_expand.specs.declared.symbols.Symbols.{Symbols}

-- the symbols are those of the specification, with who inherits which class
abbrev pub AreSymbols : Spec → Symbols → Type 0
AreSymbols spec symbols = IsInheritance spec symbols.names symbols.inheritance

abbrev pub is_nonterminal_class : SymbolClass → Bool
is_nonterminal_class class.Nonterminal = true
is_nonterminal_class _ = false

abbrev pub is_cell_class : SymbolClass → Bool
is_cell_class class.Cell = true
is_cell_class _ = false

-- the name stands for the symbol of the row, which is no cell's
abbrev pub stands_in : Symbols → SymbolRow → ℕ → Bool
stands_in symbols row n = nat_eq n row.name.0 || (is_nonterminal_class row.class && is_heir symbols.inheritance (number symbols.names row.name.0) (number symbols.names n))

-- the attribute that the first pair that stands for the symbol gives it
abbrev pub first_by : Symbols → List Pair → SymbolRow → Option StrId
first_by symbols pairs row = option_map (λ (p : Pair). p.attr.id) (find (λ (p : Pair). stands_in symbols row (name_of p.sym)) pairs)

abbrev pub listed_by : Symbols → List Pair → SymbolRow → Option StrId
listed_by symbols pairs row = if is_cell_class row.class then None else first_by symbols pairs row

-- a name stands for it, and one behind SHIELD
abbrev pub named_by : Symbols → List Name → SymbolRow → Bool
named_by symbols names row = list_any (λ (x : Name). stands_in symbols row (name_of x)) names

abbrev pub shielded_by : Symbols → List Name → SymbolRow → Bool
shielded_by symbols shield row = not (is_cell_class row.class) && named_by symbols shield row

-- the row has the attribute, which isn't VOID, and is that of a nonterminal
abbrev pub is_void : ValueType → Bool
is_void type.Void = true
is_void _ = false

abbrev pub holds_value : SymbolRow → StrId → Bool
holds_value row a = list_any (λ (x : FlatAttr). nat_eq x.name.0 a.0 && not (is_void x.ty)) row.attrs

abbrev pub gives_value : SymbolRow → Option StrId → Bool
gives_value row None = false
gives_value row (Some a) = is_nonterminal_class row.class && holds_value row a

-- the names with one more, if there is one
abbrev pub with_name : List ℕ → Option ℕ → List ℕ
with_name names None = names
with_name names (Some s) = insert_key nat_eq names s
