use Rattle.std.proofs.Common.{◌≡◌, take}
use Rattle.visit_sequences.proofs.plan.row_copy.Given as goal

-- the copy has those so far
abbrev pub invariant-loop-class : goal.invariant-loop-class
invariant-loop-class l = l.copy.items ≡ take l.class-index l.row
