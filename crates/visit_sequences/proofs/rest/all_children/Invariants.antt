use Rattle.std.proofs.Common.{◌<◌, ◌≤◌, ℕ}
use Rattle.visit_sequences.specs.Steps.{IsListed}
use Rattle.visit_sequences.proofs.rest.all_children.Given as goal

-- the children so far are listed
abbrev pub invariant-loop-k : goal.invariant-loop-k
invariant-loop-k l = (j : ℕ) → 0 < j → j ≤ l.k → IsListed l.listed j
