-- The attributes that a remote list lists, as the tables number them.
use Rattle.std.specs.Prelude.{ℕ, ◌≤◌, Bool, nat_eq, nat_lt, if◌then◌else◌, List, Option, Some, None, is_some, position, slice_get, unwrap_or, length, Contains}
use Rattle.lido_base.specs.declared.ids.AttrId.{AttrId}
use Rattle.lido_syntax.specs.declared.spec.Pair.{Pair}
use Rattle.flat_grammar.specs.declared.flat.FlatAttr.{FlatAttr}
use Rattle.rule_tables.specs.declared.table.Tables.{Tables}
use Rattle.rule_tables.specs.declared.table.SymbolRow.{SymbolRow}
use Rattle.remote_lists.specs.declared.symbols.Symbols.{Symbols}
use Rattle.remote_lists.specs.Listings.{listed_by}

-- u16 numbers the attributes of each symbol
abbrev pub AreNumberable : Tables → Type 0
AreNumberable t = (row : SymbolRow) → Contains t.symbols row → length row.attrs ≤ 65536

-- the number of the attribute in the row, if u16 numbers it
abbrev pub id_in : ℕ → Option AttrId
id_in i = if nat_lt i 65536 then Some (record { 0 = i }) else None

abbrev pub id_at : Option ℕ → Option AttrId
id_at None = None
id_at (Some i) = id_in i

abbrev pub place_of : SymbolRow → ℕ → Option ℕ
place_of row a = position (λ (x : FlatAttr). nat_eq x.name.0 a) row.attrs

abbrev pub id_of : SymbolRow → ℕ → Option AttrId
id_of row a = id_at (place_of row a)

-- the attribute that the pairs list for the symbol of the row
abbrev pub source_by : Symbols → List Pair → SymbolRow → Option AttrId
source_by symbols pairs row = elim (listed_by symbols pairs row) [ None ↦ None | Some a ↦ id_of row a.0 ]

abbrev pub is_source : Option AttrId → Bool
is_source o = is_some o

-- the attribute that is listed for the symbol of that number
abbrev pub source_of : List (Option AttrId) → ℕ → Option AttrId
source_of sources x = unwrap_or (slice_get sources x) None
