use Rattle.visit_sequences.specs.Steps.{AreEvaluated}
use Rattle.visit_sequences.proofs.progress.Progress.evaluated_from.Given as goal

-- those so far are evaluated
abbrev pub invariant-loop-k : goal.invariant-loop-k
invariant-loop-k l = AreEvaluated l.self l.goals l.k
