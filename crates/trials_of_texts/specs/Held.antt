-- Texts of one room.
use Rattle.std.specs.Prelude.{◌≡◌, ℕ, List, [], ◌∷◌}
use Rattle.lido_base.specs.declared.value.Desc.{Desc}
use Rattle.string_librarian.specs.Denotes.{Denotes}
use Rattle.string_librarian.specs.Rooms.{RoomState}

-- The room is number 0, and the descriptor denotes a text in it, whatever the patterns.
pub record IsHeld (texts : List (List ℕ)) (room : RoomState) (d : Desc) : Type 0 where
  pub first : room.number ≡ 0
  pub bytes : List ℕ
  pub denotes : Denotes texts [] (room ∷ []) d bytes
