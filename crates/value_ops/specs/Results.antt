-- What an operation gives, as one total function: the value and the room's deposits afterwards, for all arguments.
use Rattle.std.specs.Prelude.{◌≡◌, ℕ, ◌+◌, ◌^◌, nat_le, if◌then◌else◌, List, [], ◌∷◌, ◌++◌, map, Some, None, Result, Ok, Err, slice_get}
use Rattle.lido_base.specs.declared.value.Value.{Value}
use Rattle.lido_base.specs.declared.value.Value.TheVariants as value
use Rattle.lido_base.specs.declared.value.BadKind.{BadKind}
use Rattle.lido_base.specs.declared.value.BadKind.TheVariants.{TextTooLong}
use Rattle.lido_base.specs.declared.operation.Op.{Op}
use Rattle.lido_base.specs.declared.pattern.Pattern.{Pattern}
use Rattle.lido_base.specs.declared.pattern.Piece.{Piece}
use Rattle.lido_base.specs.Plain.{Plain, Int, Truth, Bad, plain}
use Rattle.lido_base.specs.Operations.{operate}
use Rattle.string_librarian.specs.Rooms.{Deposit, RoomState, HaveGrown, cells_of}
use Rattle.string_librarian.specs.Parts.{parts_of}
use Rattle.value_ops.specs.Outcome.{bad_at, piece_of, handed_on, fits, first_bad, StandsFor}
use Rattle.value_ops.specs.Lengths.{parts_len}

-- The outcome as a value: a failure stands at this node and computation.
abbrev pub answered : ℕ → ℕ → Result Value BadKind → Value
answered node comp (Ok v) = v
answered node comp (Err kind) = value.Bad (record { node = node; comp = comp; kind = kind })

-- A plain value that is no string and no text, as a value.
abbrev pub from_plain : Plain → Value
from_plain (Int z) = value.Int z
from_plain (Truth b) = value.Bool b
from_plain (Bad o) = value.Bad o
from_plain _ = value.Void

module _ (texts : List (List ℕ)) (patterns : List Pattern) (number : ℕ) where
  -- The text of a piece, by its length: a deposit behind those of the room, or TextTooLong.
  abbrev pub text_result : ℕ → ℕ → ℕ → Piece → List Value → List Deposit → Value × List Deposit
  text_result node comp len piece args ds =
      if nat_le len (2 ^ 30) then (value.Text (record { room = number; node = 1 + cells_of ds; len = len }), ds ++ record { piece = piece; args = args; len = len } ∷ [])
      else (value.Bad (record { node = node; comp = comp; kind = TextTooLong }), ds)

  -- What a piece gives: a text where the arguments fit it, else Void.
  abbrev pub piece_result : ℕ → ℕ → Piece → List Value → List Deposit → Value × List Deposit
  piece_result node comp piece args ds = if fits piece args then text_result node comp (parts_len texts args (parts_of patterns piece)) piece args ds else (value.Void, ds)

  -- What an operation gives, and the deposits afterwards.
  abbrev pub result_of : ℕ → ℕ → Op → List Value → List Deposit → Value × List Deposit
  result_of node comp op args ds = elim (first_bad args) [
    | Some o ↦ (value.Bad o, ds)
    | None ↦ elim (handed_on op args) [
      | Some v ↦ (v, ds)
      | None ↦ elim (piece_of op) [
        | None ↦ (from_plain (operate texts patterns (bad_at node comp) op (map (plain texts) args)), ds)
        | Some piece ↦ piece_result node comp piece args ds
      ]
    ]
  ]

-- The rooms of a run, by the deposits of the room of this number: it has these, and with more behind them all rooms have grown.
pub record IsFamily (number : ℕ) (rooms : List Deposit → List RoomState) : Type 0 where
  pub grow : (ds more : List Deposit) → HaveGrown (rooms ds) (rooms (ds ++ more))
  pub there : (ds : List Deposit) → (room : RoomState) × (slice_get (rooms ds) number ≡ Some room) × (room.deposits ≡ ds)

-- The deposits are those before with some more, and in the rooms that have them the value stands for the plain one.
pub record StandsAfter (texts : List (List ℕ)) (patterns : List Pattern) (rooms : List Deposit → List RoomState) (ds : List Deposit) (a : Value × List Deposit) (p : Plain) : Type 0 where
  pub more : List Deposit
  pub is : a.1 ≡ ds ++ more
  pub stands : StandsFor texts patterns (rooms a.1) a.0 p
