use Rattle.std.proofs.Common.{◌≡◌, ◌++◌, map, take}
use Rattle.constituents_expand.specs.Weights.{read_of}
use Rattle.constituents_expand.proofs.weights.pieces.Given as goal

-- the slots so far
abbrev pub invariant-loop-slot : goal.invariant-loop-slot
invariant-loop-slot l = l.pieces.items ≡ l.initial.pieces.items ++ map read_of (take l.slot-index l.below)
