use Rattle.std.proofs.Common.{◌≡◌, take}
use Rattle.flat_terms.specs.Terms.{slots_of_pieces}
use Rattle.flat_terms.proofs.term_needs.piece_slots.Given as goal

-- the attributes of the pieces so far
abbrev pub invariant-loop-piece : goal.invariant-loop-piece
invariant-loop-piece l = l.found.items ≡ slots_of_pieces (take l.piece-index l.pieces)
