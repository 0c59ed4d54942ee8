-- Tables of types, by keys, and what they have.
use Rattle.std.specs.Prelude.{◌≡◌, ℕ, ◌⊎◌, nat_eq, List, Option, Some, None, Contains}
use Rattle.std.specs.HashMap as table
use Rattle.lido_base.specs.declared.value.ValueType.{ValueType}
use Rattle.symbol_attributes.specs.Facts.{is_same_key}
use Rattle.leaf_types.specs.declared.attributes.AttributeTypes.{AttributeTypes}
use Rattle.leaf_types.specs.declared.names.NameTypes.{NameTypes}

-- what a table has for an attribute of a symbol, and for a name
unfoldable pub type_of_attribute : AttributeTypes → ℕ × ℕ → Option ValueType
type_of_attribute types k = table.get is_same_key types.types k

unfoldable pub type_of_name : NameTypes → ℕ → Option ValueType
type_of_name types k = table.get nat_eq types.types k

-- some of these gives the key this type
abbrev pub OfSome : {X K : Type 0} → (X → K → ValueType → Type 0) → List X → K → ValueType → Type 0
OfSome {X} Gives xs k ty = (x : X) × Contains xs x × Gives x k ty

-- A key has a type that is given, if one is.
pub record IsTableOf {K : Type 0} (Gives : K → ValueType → Type 0) (types : K → Option ValueType) : Type 0 where
  pub only : (k : K) (ty : ValueType) → types k ≡ Some ty → Gives k ty
  pub all : (k : K) → types k ≡ None → (ty : ValueType) → ¬ Gives k ty

-- The later table has for each key what the earlier one has, or a type that is given; and some type if one is given.
pub record HasMore {K : Type 0} (Gives : K → ValueType → Type 0) (earlier later : K → Option ValueType) : Type 0 where
  pub only : (k : K) (ty : ValueType) → later k ≡ Some ty → (earlier k ≡ Some ty) ⊎ Gives k ty
  pub kept : (k : K) → later k ≡ None → earlier k ≡ None
  pub all : (k : K) → later k ≡ None → (ty : ValueType) → ¬ Gives k ty
