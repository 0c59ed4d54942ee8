use Rattle.std.proofs.Common.{◌≤◌, length}
use Rattle.flat_grammar.specs.SoundPlan.{segment_after}
use Rattle.visit_sequences.specs.Steps.{visits_there, Follows, IsRest, Sorts}
use Rattle.visit_sequences.proofs.MeasureLemmas.{EachChosen, left_over}
use Rattle.visit_sequences.proofs.plan.sequence.Given as goal

-- the items so far are those that are chosen, the last visit is not over, the queue says how the goals stand, and what is passed over has nothing left
abbrev pub invariant-loop-rest : goal.invariant-loop-rest
invariant-loop-rest l = record {
  follows : Follows l.parts.visits l.rule l.progress;
  chosen : EachChosen l.parts.visits l.rule l.flat.symbols l.flat.rules l.progress.items.items;
  within : segment_after l.progress.items.items ≤ length (visits_there l.parts.visits l.rule 0);
  sorts : Sorts l.progress l.goals.items l.queue;
  rest : IsRest l.parts.visits l.rule l.progress l.goals.items l.rest;
}

abbrev pub decreases-loop-rest : goal.decreases-loop-rest
decreases-loop-rest l = left_over l.parts.visits l.rule l.progress.items.items
