use Rattle.std.proofs.Common.{◌≡◌, take}
use Rattle.visit_sequences.proofs.plan.visits_copy.Given as goal

-- the copy has those so far
abbrev pub invariant-loop-row : goal.invariant-loop-row
invariant-loop-row l = l.copy.items ≡ take l.row-index l.visits
