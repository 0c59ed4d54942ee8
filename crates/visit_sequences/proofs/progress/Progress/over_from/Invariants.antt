use Rattle.visit_sequences.specs.Steps.{AreOver}
use Rattle.visit_sequences.proofs.progress.Progress.over_from.Given as goal

-- none of the children so far has a visit left
abbrev pub invariant-loop-k : goal.invariant-loop-k
invariant-loop-k l = AreOver l.visits l.rule l.self l.k
