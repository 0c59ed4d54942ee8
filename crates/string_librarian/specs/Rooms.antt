-- Rooms as contracts see them: lists of deposits, with the cells that are left.
use Rattle.std.specs.Prelude.{◌≡◌, ℕ, ◌+◌, List, ◌∷◌, ◌++◌, [], length, Some, slice_get}
use Rattle.lido_base.specs.declared.value.Value.{Value}
use Rattle.lido_base.specs.declared.value.Desc.{Desc}
use Rattle.lido_base.specs.declared.pattern.Piece.{Piece}

-- One deposit: what makes its text, of which arguments, and how many bytes the text has.
pub record Deposit : Type 0 where
  pub piece : Piece
  pub args : List Value
  pub len : ℕ

-- A room: its number, its deposits in order, and how many more cells it has space for.
pub record RoomState : Type 0 where
  pub number : ℕ
  pub deposits : List Deposit
  pub space : ℕ

-- The cells that deposits use: one each, and one for each of its arguments.
abbrev pub cells_of : List Deposit → ℕ
cells_of [] = 0
cells_of (d ∷ ds) = 1 + length d.args + cells_of ds

-- The descriptor is that of this deposit, which stands in the room of its number: `node` is 1 plus the cells used before it.
pub record IsAt (rooms : List RoomState) (d : Desc) (deposit : Deposit) : Type 0 where
  pub room : RoomState
  pub in_room : slice_get rooms d.room ≡ Some room
  pub before : List Deposit
  pub after : List Deposit
  pub parts : room.deposits ≡ before ++ deposit ∷ after
  pub place : d.node ≡ 1 + cells_of before
  pub same_len : d.len ≡ deposit.len

-- The rooms have at least the deposits that they had: there may be more rooms, and more deposits behind those of each.
abbrev pub HaveGrown : List RoomState → List RoomState → Type 0
HaveGrown old new = (k : ℕ) (room : RoomState) → slice_get old k ≡ Some room
    → (grown : RoomState) × (slice_get new k ≡ Some grown) × ((more : List Deposit) × (grown.deposits ≡ room.deposits ++ more))

-- Room k has number k.
abbrev pub AreNumbered : List RoomState → Type 0
AreNumbered rooms = (k : ℕ) (room : RoomState) → slice_get rooms k ≡ Some room → room.number ≡ k

-- The cells that the deposits of all rooms use.
abbrev pub all_cells : List RoomState → ℕ
all_cells [] = 0
all_cells (room ∷ rooms) = cells_of room.deposits + all_cells rooms
