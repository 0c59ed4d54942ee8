-- How a room keeps its deposits in cells.
use Rattle.std.specs.Prelude.{◌≡◌, ◌+◌, ◌^◌, ◌<◌, ◌≤◌, List, [], ◌∷◌, ◌++◌, length, map, take, vec_capacity}
use Rattle.lido_base.specs.declared.value.Value.{Value}
use Rattle.string_librarian.specs.declared.room.Cell.{Cell}
use Rattle.string_librarian.specs.declared.room.Cell.TheVariants as cell
use Rattle.string_librarian.specs.declared.room.Room.TheInside.{Inside}
use Rattle.string_librarian.specs.Rooms.{RoomState, Deposit}

-- The cells of deposits: a head, and then the arguments.
abbrev pub cells_for : List Deposit → List Cell
cells_for [] = []
cells_for (d ∷ ds) = cell.Deposit (record { piece = d.piece; len = d.len; args = length d.args }) ∷ map cell.Arg d.args ++ cells_for ds

-- The arguments among the cells.
abbrev pub values : List Cell → List Value
values [] = []
values (cell.Arg v ∷ cs) = v ∷ values cs
values (cell.Deposit h ∷ cs) = values cs

-- The deposits that cells keep.
abbrev pub deposits_of : List Cell → List Deposit
deposits_of [] = []
deposits_of (cell.Arg v ∷ cs) = deposits_of cs
deposits_of (cell.Deposit h ∷ cs) = record { piece = h.piece; args = values (take h.args cs); len = h.len } ∷ deposits_of cs

abbrev pub state_of : Inside → RoomState
state_of r = record { number = r.number; deposits = deposits_of r.cells.items; space = r.space }

-- The cells are those of deposits, the memory for the rest is found, and numbers of 32 bits count them all.
pub record IsKept (r : Inside) : Type 0 where
  pub whole : r.cells.items ≡ cells_for (deposits_of r.cells.items)
  pub found : length r.cells.items + r.space ≤ vec_capacity r.cells
  pub counted : length r.cells.items + r.space < 2 ^ 32
