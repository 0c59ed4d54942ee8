-- What a remote list lists for the symbols, as the tables tell it.
use Rattle.std.specs.Prelude.{ℕ, Bool, true, false, ◌||◌, ◌&&◌, nat_eq, if◌then◌else◌, List, find, Option, Some, None, option_map, is_some}
use Rattle.lido_base.specs.declared.ids.StrId.{StrId}
use Rattle.lido_syntax.specs.declared.spec.Pair.{Pair}
use Rattle.lido_syntax.specs.declared.spec.Spec.{Spec}
use Rattle.lido_syntax.specs.Production.{name_of}
use Rattle.indexmap.specs.IndexSet.{insert_key}
use Rattle.symbol_attributes.specs.Inheritance.{number, is_heir, IsInheritance}
use Rattle.rule_tables.specs.declared.table.SymbolRow.{SymbolRow}
use Rattle.rule_tables.specs.declared.table.SymbolClass.{SymbolClass}
use Rattle.rule_tables.specs.declared.table.SymbolClass.TheVariants as class
use Rattle.remote_lists.specs.declared.symbols.Symbols.{Symbols}

-- the symbols are those of the specification, with who inherits which class
abbrev pub AreSymbols : Spec → Symbols → Type 0
AreSymbols spec symbols = IsInheritance spec symbols.names symbols.inheritance

abbrev pub is_nonterminal_class : SymbolClass → Bool
is_nonterminal_class class.Nonterminal = true
is_nonterminal_class _ = false

abbrev pub is_cell_class : SymbolClass → Bool
is_cell_class class.Cell = true
is_cell_class _ = false

-- the name stands for the symbol of the row, which is no cell's
abbrev pub stands_in : Symbols → SymbolRow → ℕ → Bool
stands_in symbols row n = nat_eq n row.name.0 || (is_nonterminal_class row.class && is_heir symbols.inheritance (number symbols.names row.name.0) (number symbols.names n))

-- the attribute that the first pair that stands for the symbol gives it
abbrev pub first_by : Symbols → List Pair → SymbolRow → Option StrId
first_by symbols pairs row = option_map (λ (p : Pair). p.attr.id) (find (λ (p : Pair). stands_in symbols row (name_of p.sym)) pairs)

abbrev pub listed_by : Symbols → List Pair → SymbolRow → Option StrId
listed_by symbols pairs row = if is_cell_class row.class then None else first_by symbols pairs row

-- something is listed for it
abbrev pub is_listed_by : Symbols → List Pair → SymbolRow → Bool
is_listed_by symbols pairs row = is_some (listed_by symbols pairs row)

-- the names with one more, if there is one
abbrev pub with_name : List ℕ → Option ℕ → List ℕ
with_name names None = names
with_name names (Some s) = insert_key nat_eq names s
