use Rattle.std.proofs.Common.{◌≡◌, ◌++◌, length}
use Rattle.ptg_patterns.specs.Marks.{marks}
use Rattle.ptg_patterns.proofs.marks.marks.Given as goal

abbrev pub invariant-loop-token : goal.invariant-loop-token
invariant-loop-token l = marks l.tokens ≡ l.found.items ++ marks l.rest

abbrev pub decreases-loop-token : goal.decreases-loop-token
decreases-loop-token l = length l.rest
