use Rattle.std.proofs.Common.{◌≡◌, drop}
use Rattle.std.specs.List.{list_all}
use Rattle.string_librarian.specs.Rooms.{Deposit, IsAt}
use Rattle.string_librarian.specs.Parts.{is_full}
use Rattle.string_librarian.proofs.library.Library.are_full.Given as goal

abbrev pub invariant-loop-part : goal.invariant-loop-part
invariant-loop-part l = (d : Deposit) → IsAt l.self l.desc d → list_all (is_full d.args) (drop l.part-index l.parts) ≡ list_all (is_full d.args) l.parts
