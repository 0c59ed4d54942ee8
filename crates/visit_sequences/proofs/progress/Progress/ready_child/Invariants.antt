use Rattle.std.proofs.Common.{length}
use Rattle.visit_sequences.specs.Steps.{AreListedChildren}
use Rattle.visit_sequences.proofs.progress.Progress.ready_child.Given as goal

-- the children that are ready are listed
abbrev pub invariant-loop-occ : goal.invariant-loop-occ
invariant-loop-occ l = AreListedChildren l.visits l.rule l.self l.ready

abbrev pub decreases-loop-occ : goal.decreases-loop-occ
decreases-loop-occ l = length l.ready.occurrences.keys
