-- What INCLUDINGs list for the nonterminals, as the tables tell it.
use Rattle.std.specs.Prelude.{◌≡◌, ℕ, if◌then◌else◌, List, filter_map, Option, Some, None}
use Rattle.lido_base.specs.declared.ids.StrId.{StrId}
use Rattle.lido_syntax.specs.declared.spec.Pair.{Pair}
use Rattle.lido_symbols.specs.Numbers.{enumerated}
use Rattle.rule_tables.specs.declared.table.SymbolRow.{SymbolRow}
use Rattle.remote_lists.specs.declared.symbols.Symbols.{Symbols}
use Rattle.remote_lists.specs.Listings.{is_nonterminal_class, listed_by}
use Rattle.including_sets.specs.declared.uses.Use.{Use}
use Rattle.including_sets.specs.declared.listings.ListedAttr.{ListedAttr}
use Rattle.including_sets.specs.declared.listings.Listing.{Listing}

-- the attribute of the symbol of that number, if there is one
abbrev pub attr_at : ℕ → Option StrId → Option ListedAttr
attr_at x None = None
attr_at x (Some a) = Some (record { sym = record { 0 = x }; attr = a })

-- what the pairs list for the symbol, if it is a nonterminal; and for all
abbrev pub listed_in : Symbols → List Pair → ℕ × SymbolRow → Option ListedAttr
listed_in symbols pairs x = if is_nonterminal_class x.1.class then attr_at x.0 (listed_by symbols pairs x.1) else None

abbrev pub listed_attrs : Symbols → List SymbolRow → List Pair → List ListedAttr
listed_attrs symbols rows pairs = filter_map (listed_in symbols pairs) (enumerated 0 rows)

-- an INCLUDING with the attributes that this gives it
pub record IsListing (attrs_of : Use → List ListedAttr) (u : Use) (l : Listing) : Type 0 where
  pub one : l.one ≡ u
  pub attrs : l.attrs.now ≡ attrs_of u
