-- The types of arguments and of results.
use Rattle.std.specs.Prelude.{◌≡◌, ◌⊎◌, List, [], ◌∷◌, Option, Some, None, slice_get, map, Contains}
use Rattle.lido_base.specs.declared.operation.Op.{Op}
use Rattle.lido_base.specs.declared.operation.Op.TheVariants as op
use Rattle.lido_base.specs.declared.value.ValueType.{ValueType}
use Rattle.lido_base.specs.declared.value.ValueType.TheVariants.{Int, Str, Bool, Text, Void}
use Rattle.lido_base.specs.declared.pattern.Pattern.{Pattern}
use Rattle.lido_base.specs.Plain.{Plain}
use Rattle.lido_base.specs.Plain as plain

-- A row of the table of types: the types of the arguments in order, and the type of the result.
pub record Signature : Type 0 where
  pub args : List ValueType
  pub gives : ValueType

-- The row with these types.
abbrev pub of_types : List ValueType → ValueType → Signature
of_types args gives = record { args = args; gives = gives }

-- All types, where a function takes any.
abbrev pub every_type : List ValueType
every_type = Int ∷ Str ∷ Bool ∷ Text ∷ Void ∷ []

-- For each of these types two arguments of it, which are compared.
abbrev pub two_alike : List ValueType → List Signature
two_alike types = map (λ ty. of_types (ty ∷ ty ∷ []) Bool) types

-- The rows of an operation. All its rows have as many arguments; a pattern's are its insertion points.
abbrev pub signatures : List Pattern → Op → List Signature
signatures patterns op.Add = of_types (Int ∷ Int ∷ []) Int ∷ []
signatures patterns op.Sub = of_types (Int ∷ Int ∷ []) Int ∷ []
signatures patterns op.Mul = of_types (Int ∷ Int ∷ []) Int ∷ []
signatures patterns op.Div = of_types (Int ∷ Int ∷ []) Int ∷ []
signatures patterns op.Mod = of_types (Int ∷ Int ∷ []) Int ∷ []
signatures patterns op.Neg = of_types (Int ∷ []) Int ∷ []
signatures patterns op.And = of_types (Bool ∷ Bool ∷ []) Bool ∷ []
signatures patterns op.Or = of_types (Bool ∷ Bool ∷ []) Bool ∷ []
signatures patterns op.Not = of_types (Bool ∷ []) Bool ∷ []
signatures patterns op.Eq = two_alike (Int ∷ Str ∷ Bool ∷ [])
signatures patterns op.Ne = two_alike (Int ∷ Str ∷ Bool ∷ [])
signatures patterns op.Lt = two_alike (Int ∷ [])
signatures patterns op.Le = two_alike (Int ∷ [])
signatures patterns op.Gt = two_alike (Int ∷ [])
signatures patterns op.Ge = two_alike (Int ∷ [])
signatures patterns op.Identical = map (λ ty. of_types (ty ∷ []) ty) every_type
signatures patterns op.Zero = of_types [] Int ∷ []
signatures patterns op.One = of_types [] Int ∷ []
signatures patterns op.ArgToOne = map (λ ty. of_types (ty ∷ []) Int) every_type
signatures patterns op.Null = of_types [] Text ∷ []
signatures patterns op.Numb = of_types (Int ∷ []) Text ∷ []
signatures patterns op.AsIs = of_types (Str ∷ []) Text ∷ []
signatures patterns op.Seq = of_types (Text ∷ Text ∷ []) Text ∷ []
signatures patterns (op.Pattern k) = elim (slice_get patterns k) [ None ↦ [] | Some pattern ↦ of_types pattern.args Text ∷ [] ]

-- The operation takes arguments of these types, and gives a result of that type.
abbrev pub Takes : List Pattern → Op → List ValueType → ValueType → Type 0
Takes patterns o args gives = Contains (signatures patterns o) (of_types args gives)

-- The type of a value, if it has one: a Bad value stands for one of any type.
abbrev pub plain_type : Plain → Option ValueType
plain_type (plain.Int z) = Some Int
plain_type (plain.Truth b) = Some Bool
plain_type (plain.Str bytes) = Some Str
plain_type (plain.Text bytes) = Some Text
plain_type plain.Void = Some Void
plain_type (plain.Bad o) = None

-- The value is Bad or of the type.
abbrev pub IsOfType : ValueType → Plain → Type 0
IsOfType ty v = (plain_type v ≡ None) ⊎ (plain_type v ≡ Some ty)
