-- What symbols are, by what TERM declares.
use Rattle.std.specs.Prelude.{◌≡◌, ℕ, List, Option, Some, None, Contains}
use Rattle.std.specs.HashMap as table
use Rattle.lido_base.specs.declared.value.ValueType.{ValueType}
use Rattle.lido_syntax.specs.declared.spec.Typed1.{Typed1}
use Rattle.lido_syntax.specs.Production.{name_of}
use Rattle.std.specs.Prelude.{nat_eq}
use Rattle.rule_tables.specs.declared.symbol_kinds.TermTypes.{TermTypes}

-- the type of the name
unfoldable pub type_in : TermTypes → ℕ → Option ValueType
type_in terms s = table.get nat_eq terms.types s

-- one of these declares the name, with this type
abbrev pub Declares : List Typed1 → ℕ → ValueType → Type 0
Declares terms s ty = (x : Typed1) × Contains terms x × (name_of x.name ≡ s) × (x.ty ≡ ty)

-- Each name that these declare has a type that one of them gives it, and the others have none.
pub record AreTermTypes (terms : List Typed1) (types : TermTypes) : Type 0 where
  pub only : (s : ℕ) (ty : ValueType) → type_in types s ≡ Some ty → Declares terms s ty
  pub all : (s : ℕ) (ty : ValueType) → type_in types s ≡ None → ¬ Declares terms s ty
