-- Attributes of the flat grammar, as the tables tell them.
use Rattle.std.specs.Prelude.{◌≡◌, ℕ, suc, ◌<◌, Bool, true, false, nat_eq, List, ◌++◌, map, filter_map, find, unwrap_or, codes, decimal}
use Rattle.std.specs.List.Sorted.{IsStrictlyIncreasing}
use Rattle.lido_base.specs.Environment.{Environment}
use Rattle.lido_base.specs.declared.ids.StrId.{StrId}
use Rattle.lido_base.specs.declared.kinds.Kind.{Kind}
use Rattle.lido_base.specs.declared.kinds.Kind.TheVariants as kind
use Rattle.lido_base.specs.declared.value.ValueType.{ValueType}
use Rattle.lido_base.specs.declared.value.ValueType.TheVariants as type
use Rattle.lido_syntax.specs.Functions.{text_of}
use Rattle.lido_symbols.specs.Numbers.{place_in}
use Rattle.flat_grammar.specs.declared.flat.FlatAttr.{FlatAttr}
use Rattle.rule_tables.specs.declared.table.Tables.{Tables}
use Rattle.rule_tables.specs.declared.extra.Extra.{Extra}
use Rattle.flat_slots.specs.declared.slot.Slot.{Slot}
use Rattle.flat_slots.specs.declared.slot.Slot.TheVariants.{Written, Inc, Con, Front, Behind, Msg, Out}
use Rattle.flat_symbols.specs.declared.attributes.Added.{Added}
use Rattle.flat_symbols.specs.Constituents.{AreNumbersOf}
use Rattle.flat_symbols.specs.Types.{type_in, set_type, constituents_type, chain_type, AreTypesOf}

-- the text of the name, where the CONSTITUENTS of the text have these numbers
abbrev pub name_text : Environment → List ℕ → Slot → List ℕ
name_text env numbers (Written a) = text_of env a.0
name_text env numbers (Inc i) = codes "$inc" ++ decimal (suc i)
name_text env numbers (Con n) = codes "$con" ++ decimal (suc (place_in (λ m. nat_eq m n) numbers))
name_text env numbers (Front c) = codes "$front_" ++ text_of env c.0
name_text env numbers (Behind c) = codes "$behind_" ++ text_of env c.0
name_text env numbers (Msg j) = codes "$msg" ++ decimal j
name_text env numbers Out = codes "$out"

-- the id of a chain's name is below this number
abbrev pub IsBelow : ℕ → Slot → Type 0
IsBelow n (Front c) = c.0 < n
IsBelow n (Behind c) = c.0 < n
IsBelow n _ = Unit {0}

abbrev pub added_kind : Slot → Kind
added_kind (Inc i) = kind.Inherited
added_kind (Front c) = kind.Inherited
added_kind _ = kind.Synthesized

abbrev pub added_type : Added → Slot → ValueType
added_type added (Written a) = type.Void
added_type added (Inc i) = unwrap_or (type_in added.includings i) type.Void
added_type added (Con n) = unwrap_or (type_in added.constituents n) type.Void
added_type added (Front c) = unwrap_or (type_in added.chains c.0) type.Void
added_type added (Behind c) = unwrap_or (type_in added.chains c.0) type.Void
added_type added _ = type.Text

abbrev pub is_named : Slot → Bool
is_named (Written a) = true
is_named (Msg j) = true
is_named Out = true
is_named _ = false

abbrev pub is_message_slot : Slot → Bool
is_message_slot (Msg j) = true
is_message_slot _ = false

-- the written attribute of that name
abbrev pub no_attr : StrId → FlatAttr
no_attr a = record { name = a; kind = kind.Synthesized; ty = type.Void; written = true; message = false }

abbrev pub written_in : List FlatAttr → StrId → FlatAttr
written_in attrs a = unwrap_or (find (λ (x : FlatAttr). nat_eq x.name.0 a.0) attrs) (no_attr a)

-- an attribute that is added, where chains have ids below that number
pub record IsAddedAttr (env : Environment) (limit : ℕ) (added : Added) (slot : Slot) (attr : FlatAttr) : Type 0 where
  pub name : IsBelow limit slot → IsStrictlyIncreasing added.numbers.list → text_of env attr.name.0 ≡ name_text env added.numbers.list slot
  pub kind : attr.kind ≡ added_kind slot
  pub ty : attr.ty ≡ added_type added slot
  pub written : attr.written ≡ is_named slot
  pub message : attr.message ≡ is_message_slot slot

-- an attribute of a symbol that has these written ones
abbrev pub IsMade : Environment → ℕ → Added → List FlatAttr → Slot → FlatAttr → Type 0
IsMade env limit added attrs (Written a) attr = attr ≡ written_in attrs a
IsMade env limit added attrs slot attr = IsAddedAttr env limit added slot attr

-- what tells names and types is that of the tables and expansions
pub record AreAddedOf (t : Tables) (included gathered : Extra) (added : Added) : Type 0 where
  pub includings : AreTypesOf (filter_map set_type included.attrs) added.includings
  pub constituents : AreTypesOf (filter_map constituents_type gathered.attrs) added.constituents
  pub chains : AreTypesOf (map chain_type t.spec.chains) added.chains
  pub numbers : AreNumbersOf t.spec added.numbers
