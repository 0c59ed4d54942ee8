use Rattle.std.proofs.Common.{length}
use Rattle.ptg_patterns.proofs.FrontsLemmas.{ArePatterns}
use Rattle.ptg_patterns.proofs.reading.written.Given as goal

abbrev pub invariant-loop-at : goal.invariant-loop-at
invariant-loop-at l = ArePatterns l.marks l.found.items l.rest

abbrev pub decreases-loop-at : goal.decreases-loop-at
decreases-loop-at l = length l.rest
