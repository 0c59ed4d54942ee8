-- Every piece as parts of a pattern: the number, the string and the texts in a row are insertions too.
use Rattle.std.specs.Prelude.{◌≡◌, ℕ, zero, suc, nat_eq, List, [], ◌∷◌, length, Some, None, Bool, true, false, not, slice_get, flat_map, unwrap_or, Contains}
use Rattle.std.specs.List.{list_all}
use Rattle.lido_base.specs.declared.pattern.Pattern.{Pattern}
use Rattle.lido_base.specs.declared.pattern.Part.{Part}
use Rattle.lido_base.specs.declared.pattern.PartPiece.TheVariants.{Fixed, Arg}
use Rattle.lido_base.specs.declared.pattern.Piece.{Piece}
use Rattle.lido_base.specs.declared.pattern.Piece.TheVariants as piece
use Rattle.lido_base.specs.declared.value.Value.{Value}
use Rattle.lido_base.specs.declared.value.Value.TheVariants as value
use Rattle.lido_base.specs.declared.value.Desc.{Desc}
use Rattle.lido_base.specs.Plain.{Plain}
use Rattle.lido_base.specs.Operations.{part_bytes, is_filled}

-- The part that inserts the argument of this number, outside braces.
abbrev pub insertion : ℕ → Part
insertion k = record { piece = Arg k; brace = false }

-- The parts that print a piece.
abbrev pub parts_of : List Pattern → Piece → List Part
parts_of patterns piece.Numb = insertion 1 ∷ []
parts_of patterns piece.AsIs = insertion 1 ∷ []
parts_of patterns piece.Seq = insertion 1 ∷ insertion 2 ∷ []
parts_of patterns (piece.Pattern k) = elim (slice_get patterns k) [ None ↦ [] | Some pattern ↦ pattern.parts ]

-- What parts print for arguments.
abbrev pub parts_bytes : List (List ℕ) → List Plain → List Part → List ℕ
parts_bytes texts args parts = flat_map (part_bytes texts (list_all (is_filled args) parts) args) parts

-- The argument of this number, counted from 1.
abbrev pub argument_of : List Value → ℕ → Value
argument_of args zero = value.Void
argument_of args (suc k) = unwrap_or (slice_get args k) value.Void

abbrev pub is_empty : Value → Bool
is_empty (value.Text d) = nat_eq d.len 0
is_empty _ = false

-- The part inserts no empty text, by the lengths in descriptors.
abbrev pub is_full : List Value → Part → Bool
is_full args part = elim part.piece [ Fixed s ↦ true | Arg k ↦ not (is_empty (argument_of args k)) ]

-- The reading gives each text among the arguments as many bytes as its descriptor says.
abbrev pub HasLengths : (Desc → List ℕ) → List Value → Type 0
HasLengths reading args = (e : Desc) → Contains args (value.Text e) → length (reading e) ≡ e.len
