-- The types of what expansions add, by numbers.
use Rattle.std.specs.Prelude.{◌≡◌, ℕ, nat_eq, List, Option, Some, None, Contains}
use Rattle.std.specs.HashMap as table
use Rattle.lido_base.specs.declared.value.ValueType.{ValueType}
use Rattle.lido_syntax.specs.declared.spec.Typed1.{Typed1}
use Rattle.lido_syntax.specs.Production.{name_of}
use Rattle.rule_tables.specs.declared.extra.ExtraAttr.{ExtraAttr}
use Rattle.rule_tables.specs.declared.extra.Slot.{Slot}
use Rattle.rule_tables.specs.declared.extra.Slot.TheVariants as added
use Rattle.flat_symbols.specs.declared.types.Types.{Types}

unfoldable pub type_in : Types → ℕ → Option ValueType
type_in types n = table.get nat_eq types.types n

-- the number of a set of INCLUDING, and of a CONSTITUENTS, with the type
abbrev pub in_set : ValueType → Slot → Option (ℕ × ValueType)
in_set ty (added.Inc i) = Some (i, ty)
in_set ty _ = None

abbrev pub in_constituents : ValueType → Slot → Option (ℕ × ValueType)
in_constituents ty (added.Con n) = Some (n, ty)
in_constituents ty _ = None

abbrev pub set_type : ExtraAttr → Option (ℕ × ValueType)
set_type a = in_set a.ty a.slot

abbrev pub constituents_type : ExtraAttr → Option (ℕ × ValueType)
constituents_type a = in_constituents a.ty a.slot

abbrev pub chain_type : Typed1 → ℕ × ValueType
chain_type d = (name_of d.name, d.ty)

-- Each number of these has a type that it has there, and the others have none.
pub record AreTypesOf (pairs : List (ℕ × ValueType)) (types : Types) : Type 0 where
  pub only : (n : ℕ) (ty : ValueType) → type_in types n ≡ Some ty → Contains pairs (n, ty)
  pub all : (n : ℕ) (ty : ValueType) → Contains pairs (n, ty) → type_in types n ≡ None → ⊥
