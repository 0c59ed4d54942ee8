-- The types of the attributes that pairs list, as the tables tell them.
use Rattle.std.specs.Prelude.{◌≡◌, ℕ, ◌⊎◌, Bool, not, ◌&&◌, nat_eq, if◌then◌else◌, List, [], ◌∷◌, find, Contains}
use Rattle.std.specs.Prelude.{Option, Some, None, option_map, option_and_then, unwrap_or}
use Rattle.lido_base.specs.declared.ids.StrId.{StrId}
use Rattle.lido_base.specs.declared.value.ValueType.{ValueType}
use Rattle.lido_base.specs.declared.value.ValueType.TheVariants as type
use Rattle.lido_syntax.specs.declared.spec.Pair.{Pair}
use Rattle.lido_syntax.specs.Production.{name_of}
use Rattle.flat_grammar.specs.declared.flat.FlatAttr.{FlatAttr}
use Rattle.rule_tables.specs.declared.table.SymbolRow.{SymbolRow}
use Rattle.remote_lists.specs.declared.symbols.Symbols.{Symbols}
use Rattle.remote_lists.specs.Listings.{is_nonterminal_class, is_cell_class, listed_by}

-- the type of the attribute of that name
abbrev pub type_in : SymbolRow → ℕ → Option ValueType
type_in row a = option_map (λ (x : FlatAttr). x.ty) (find (λ (x : FlatAttr). nat_eq x.name.0 a) row.attrs)

abbrev pub type_of : SymbolRow → Option StrId → Option ValueType
type_of row None = None
type_of row (Some a) = type_in row a.0

-- that of the attribute that is listed for the nonterminal
abbrev pub type_by : Symbols → List Pair → SymbolRow → Option ValueType
type_by symbols pairs row = if is_nonterminal_class row.class then type_of row (listed_by symbols pairs row) else None

-- the row of the symbol of this name
abbrev pub is_called : ℕ → SymbolRow → Bool
is_called s row = not (is_cell_class row.class) && nat_eq row.name.0 s

-- the type of the pair's attribute on what it names, and that of the first pair
abbrev pub class_type : List SymbolRow → Pair → Option ValueType
class_type rows p = option_and_then (λ (row : SymbolRow). type_in row (name_of p.attr)) (find (is_called (name_of p.sym)) rows)

abbrev pub first_type : List SymbolRow → List Pair → ValueType
first_type rows [] = type.Void
first_type rows (p ∷ ps) = unwrap_or (class_type rows p) type.Void

module _ (symbols : Symbols) (pairs : List Pair) (rows : List SymbolRow) where
  -- the pairs list no attribute for a nonterminal that has it
  abbrev pub HasNoType : Type 0
  HasNoType = (row : SymbolRow) → Contains rows row → type_by symbols pairs row ≡ None

  -- they list one of this type
  abbrev pub IsTypeFound : ValueType → Type 0
  IsTypeFound ty = (row : SymbolRow) × Contains rows row × (type_by symbols pairs row ≡ Some ty)

  -- the type is that of a listed attribute, or where none is listed that of the first pair
  abbrev pub IsSetType : ValueType → Type 0
  IsSetType ty = IsTypeFound ty ⊎ (HasNoType × (ty ≡ first_type rows pairs))
