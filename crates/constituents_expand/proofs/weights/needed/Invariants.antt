use Rattle.std.proofs.Common.{◌≡◌, ◌++◌, take}
use Rattle.constituents_expand.proofs.weights.needed.Given as goal

-- the slots so far
abbrev pub invariant-loop-slot : goal.invariant-loop-slot
invariant-loop-slot l = l.slots.items ≡ l.initial.slots.items ++ take l.slot-index l.below
