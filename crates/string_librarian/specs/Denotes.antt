-- The text that a descriptor denotes.
use Rattle.std.specs.Prelude.{◌≡◌, ℕ, List, [], ◌∷◌, ◌++◌, Option, Some, None, length, map, Contains}
use Rattle.std.specs.Fmt.{signed_decimal}
use Rattle.lido_base.specs.declared.value.Value.{Value}
use Rattle.lido_base.specs.declared.value.Value.TheVariants as value
use Rattle.lido_base.specs.declared.value.Desc.{Desc}
use Rattle.lido_base.specs.declared.pattern.Pattern.{Pattern}
use Rattle.lido_base.specs.declared.pattern.Piece.{Piece}
use Rattle.lido_base.specs.declared.pattern.Piece.TheVariants as piece
use Rattle.lido_base.specs.Plain.{Plain, Int, Str, Text, plain}
use Rattle.lido_base.specs.Operations.{pattern_bytes}
use Rattle.string_librarian.specs.Rooms.{RoomState, Deposit, IsAt}

-- The plain value of a value, where each descriptor is read as this text.
abbrev pub read_by : List (List ℕ) → (Desc → List ℕ) → Value → Plain
read_by texts reading (value.Text d) = Text (reading d)
read_by texts reading v = plain texts v

-- The bytes that a piece makes of arguments that fit it: PTGNumb the decimal number, PTGAsIs the string, PTGSeq both texts in a
-- row, and a pattern's function what the pattern prints (PTG).
abbrev pub meaning : List (List ℕ) → List Pattern → Piece → List Plain → Option (List ℕ)
meaning texts patterns piece.Numb (Int z ∷ []) = Some (signed_decimal z)
meaning texts patterns piece.AsIs (Str bytes ∷ []) = Some bytes
meaning texts patterns piece.Seq (Text a ∷ Text b ∷ []) = Some (a ++ b)
meaning texts patterns (piece.Pattern k) args = Some (pattern_bytes texts patterns k args)
meaning _ _ _ _ = None

-- The descriptor denotes the text, in these rooms: the empty descriptor the empty text, and that of a deposit what the piece
-- makes of its arguments, where each text among them is one that its descriptor denotes, and the deposit has the text's length.
-- The least such relation (after the string librarian of Boehm and Zwaenepoel 1987).
pub data Denotes (texts : List (List ℕ)) (patterns : List Pattern) (rooms : List RoomState) : Desc → List ℕ → Type 0 where
  empty : Denotes texts patterns rooms (record { room = 0; node = 0; len = 0 }) []
  built : {d : Desc} {deposit : Deposit} {bytes : List ℕ} → IsAt rooms d deposit → (reading : Desc → List ℕ)
      → ((e : Desc) → Contains deposit.args (value.Text e) → Denotes texts patterns rooms e (reading e))
      → meaning texts patterns deposit.piece (map (read_by texts reading) deposit.args) ≡ Some bytes → length bytes ≡ deposit.len
      → Denotes texts patterns rooms d bytes

-- The piece makes these bytes of these arguments, each text among which is one that its descriptor denotes.
pub record Makes (texts : List (List ℕ)) (patterns : List Pattern) (rooms : List RoomState) (piece : Piece) (args : List Value) (bytes : List ℕ) : Type 0 where
  pub reading : Desc → List ℕ
  pub below : (e : Desc) → Contains args (value.Text e) → Denotes texts patterns rooms e (reading e)
  pub made : meaning texts patterns piece (map (read_by texts reading) args) ≡ Some bytes
