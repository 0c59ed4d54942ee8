use Rattle.std.proofs.Common.{◌≡◌, ◌+◌, ◌≤◌, [], ◌∷◌, length, refl, arith}
use Rattle.string_librarian.specs.Rooms.{cells_of}
use Rattle.string_librarian.specs.Cells.{deposits_of}
use Rattle.string_librarian.proofs.CellsLemmas.{IsStored, stored}
use Rattle.string_librarian.proofs.DenotesLemmas.{one_room_grew, kept_text, last_denotes}
use Rattle.string_librarian.proofs.room.Room.deposit.Goals as goal

is_stored : (c : goal.After-self-1) → IsStored c.self.inside.cells.items c.push_args.new.cells.items (record { piece = c.args.piece; args = c.args.args.now; len = c.args.len })
is_stored c = stored _ _ _ _ c.self.invariant.whole c.push_reserved.ensures.items c.push_args.ensures.items

pub invariant_of-self : goal.invariant_of-self
invariant_of-self c =
    let s = is_stored c in
    let room : 1 + length c.args.args.now ≤ c.self.inside.space = rw (← c.self.view_is) at c.requires in
    record {
      whole = s.whole;
      found = omega (arith, s.size);
      counted = omega (arith, s.size);
    }

pub returns-clause-room : goal.returns-clause-room
returns-clause-room c = let s = is_stored c in rw (← c.self.view_is) (rw (s.found) refl)

pub returns-clause-descriptor : goal.returns-clause-descriptor
returns-clause-descriptor c =
    let s = is_stored c in
    let place : c.len.result + 1 ≡ 1 + cells_of (deposits_of c.self.inside.cells.items) = omega (arith, s.place, c.len.ensures) in
    rw (← c.self.view_is) (rw place refl)

pub returns-clause-denotes : goal.returns-clause-denotes
returns-clause-denotes c = λ texts patterns rooms bytes here makes size.
    let s = is_stored c in
    last_denotes texts patterns rooms _ (deposits_of c.self.inside.cells.items) (record { piece = c.args.piece; args = c.args.args.now; len = c.args.len })
    (record { room = c.self.inside.number; node = c.len.result + 1; len = c.args.len }) bytes here s.found (omega (arith, s.place, c.len.ensures)) refl makes size

pub returns-clause-earlier : goal.returns-clause-earlier
returns-clause-earlier c = λ texts patterns rooms d bytes here denotes.
    let s = is_stored c in
    kept_text texts patterns rooms _
    (one_room_grew rooms c.args.self.now.number c.args.self.now _ ((record { piece = c.args.piece; args = c.args.args.now; len = c.args.len }) ∷ []) here
    (rw (← c.self.view_is) s.found)) d bytes denotes
