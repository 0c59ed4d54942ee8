-- What a pattern is, by its items.
use Rattle.std.specs.Prelude.{⊤, ◌≤◌, ℕ, suc, max, nat_eq, if◌then◌else◌, List, [], ◌∷◌, map, length, All, Option, Some, None, unwrap_or}
use Rattle.std.specs.List.{range_with_len}
use Rattle.lido_base.specs.declared.value.ValueType.{ValueType}
use Rattle.lido_base.specs.declared.value.ValueType.TheVariants as type
use Rattle.lido_base.specs.declared.pattern.Pattern.{Pattern}
use Rattle.lido_base.specs.declared.pattern.Part.{Part}
use Rattle.lido_base.specs.declared.pattern.PartPiece.{PartPiece}
use Rattle.lido_base.specs.declared.pattern.PartPiece.TheVariants as piece
use Rattle.ptg_patterns.specs.declared.written.Point.{Point as PointOf}
use Rattle.ptg_patterns.specs.declared.written.Content.TheVariants.{Text, Point}
use Rattle.ptg_patterns.specs.declared.written.Item.{Item}
use Rattle.ptg_patterns.specs.declared.written.Written.{Written}

-- The points among the items.
abbrev pub points : List Item → List PointOf
points [] = []
points (item ∷ items) = elim item.content [ Text id ↦ points items | Point point ↦ point ∷ points items ]

-- The number and the type of each point's argument: the point's own number, or its place among the points, the first of these
-- having the place k.
abbrev pub arguments : ℕ → List PointOf → List (ℕ × ValueType)
arguments k [] = []
arguments k (point ∷ points) = (unwrap_or point.number k, point.kind) ∷ arguments (suc k) points

-- The type with the first of these numbers that is j.
abbrev pub first_type : ℕ → List (ℕ × ValueType) → Option ValueType
first_type j [] = None
first_type j (argument ∷ more) = if nat_eq argument.0 j then Some argument.1 else first_type j more

-- The greatest of the numbers.
abbrev pub greatest : List (ℕ × ValueType) → ℕ
greatest [] = 0
greatest (argument ∷ more) = max argument.0 (greatest more)

-- The types of the arguments from the first to the greatest. A number that is skipped is that of a text.
abbrev pub argument_types : List (ℕ × ValueType) → List ValueType
argument_types all = map (λ j. unwrap_or (first_type j all) type.Text) (range_with_len 1 (greatest all))

-- What the items print: a string itself, a point its argument.
abbrev pub parts : ℕ → List Item → List Part
parts k [] = []
parts k (item ∷ items) = elim item.content [
  | Text id ↦ record { piece = piece.Fixed id; brace = item.brace } ∷ parts k items
  | Point point ↦ record { piece = piece.Arg (unwrap_or point.number k); brace = item.brace } ∷ parts (suc k) items
]

-- The pattern that is written so.
abbrev pub pattern_of : Written → Pattern
pattern_of written = record { name = written.name; args = argument_types (arguments 1 (points written.items)); parts = parts 1 written.items }

-- What the piece inserts, if it inserts one, is among so many arguments, counted from 1.
abbrev pub InsertsOneOf : ℕ → PartPiece → Type 0
InsertsOneOf count (piece.Fixed id) = ⊤
InsertsOneOf count (piece.Arg k) = (1 ≤ k) × (k ≤ count)

-- The pattern's parts insert its arguments and no others.
abbrev pub HasItsArguments : Pattern → Type 0
HasItsArguments pattern = All (λ (part : Part). InsertsOneOf (length pattern.args) part.piece) pattern.parts
