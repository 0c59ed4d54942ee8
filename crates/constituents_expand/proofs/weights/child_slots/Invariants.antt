use Rattle.std.proofs.Common.{◌≡◌, take}
use Rattle.constituents_expand.specs.Weights.{child_slots}
use Rattle.constituents_expand.proofs.weights.child_slots.Given as goal

-- the children so far
abbrev pub invariant-loop-j : goal.invariant-loop-j
invariant-loop-j l = l.slots.items ≡ child_slots l.gathering (take l.j l.right)
