-- The written attributes of a symbol, as the flat grammar has them.
use Rattle.std.specs.Prelude.{◌≡◌, ℕ, ◌<◌, ◌↔◌, ◌⊎◌, true, false, nat_eq, List, Option, MatchOption, unwrap_or, All, AllPairs, Contains}
use Rattle.std.specs.Option.{option_or}
use Rattle.lido_base.specs.declared.kinds.Kind.TheVariants.{Synthesized}
use Rattle.lido_base.specs.declared.value.ValueType.TheVariants as type
use Rattle.lido_syntax.specs.declared.spec.Spec.{Spec}
use Rattle.lido_syntax.specs.Sets.{Inherits}
use Rattle.lido_syntax.specs.Attributes.{Has, HasKind, HasType}
use Rattle.flat_grammar.specs.declared.flat.FlatAttr.{FlatAttr}
use Rattle.lido_symbols.specs.Numbers.{AreNumbered, place_in}
use Rattle.lido_symbols.specs.Uses.{attribute_uses}
use Rattle.symbol_attributes.specs.declared.facts.Facts.{Facts}
use Rattle.symbol_attributes.specs.declared.facts.Said.{Said}
use Rattle.symbol_attributes.specs.declared.rows.SaidTables.{SaidTables}
use Rattle.symbol_attributes.specs.declared.facts.AttrTable.{AttrTable}
use Rattle.symbol_attributes.specs.Facts.{known_of, AreSaidTables, IsAttrTableOf}
use Rattle.symbol_attributes.specs.Said.{no_facts, AreSaid}

module _ (spec : Spec) where
  -- a written attribute of the symbol
  pub record IsWrittenAttribute (s : ℕ) (attr : FlatAttr) : Type 0 where
    pub of_symbol : Has spec s attr.name.0
    pub kind : HasKind spec s attr.name.0 attr.kind
    pub ty : HasType spec s attr.name.0 attr.ty
    pub written : attr.written ≡ true
    pub message : attr.message ≡ false

  -- Attributes are numbered by the places where their names first stand in the text.
  pub record AreAttributesOf (s : ℕ) (attrs : List FlatAttr) : Type 0 where
    pub each : All (IsWrittenAttribute s) attrs
    pub all : (a : ℕ) → Has spec s a → (x : FlatAttr) × Contains attrs x × (x.name.0 ≡ a)
    pub by_place : (attributes : List ℕ) → AreNumbered nat_eq (attribute_uses spec) attributes
        → AllPairs (λ (x y : FlatAttr). place_in (nat_eq x.name.0) attributes < place_in (nat_eq y.name.0) attributes) attrs

-- what declarations by ATTR say of the attribute, which may be nothing
abbrev pub known_by_attr : AttrTable → ℕ → Facts
known_by_attr table a = unwrap_or (known_of table a) no_facts

-- the attribute of which this is said, of the symbol and its classes, and by ATTR
abbrev pub written_attribute : ℕ → Facts → Facts → FlatAttr
written_attribute a f g = record {
  name = record { 0 = a };
  kind = unwrap_or (option_or (option_or f.kind g.kind) f.told) Synthesized;
  ty = unwrap_or (option_or f.ty g.ty) type.Void;
  written = true;
  message = false;
}

-- the tables have what the specification says of attributes
pub record AreFactsOf (spec : Spec) (tables : SaidTables) (by_attr : AttrTable) : Type 0 where
  pub list : List Said
  pub said : AreSaid spec list
  pub tables_of : AreSaidTables list tables
  pub attrs : IsAttrTableOf spec.attrs by_attr

-- the symbol and the classes that it inherits
abbrev pub AreOwners : Spec → ℕ → List ℕ → Type 0
AreOwners spec s owners = (x : ℕ) → Contains owners x ↔ ((s ≡ x) ⊎ Inherits spec s x)

-- the written attribute of that name, and none if the symbol doesn't have it
abbrev pub IsAttributeAt : Spec → ℕ → ℕ → Option FlatAttr → Type 0
IsAttributeAt spec s a o = MatchOption o (¬ Has spec s a) (λ (x : FlatAttr). IsWrittenAttribute spec s x × (x.name.0 ≡ a))
