use Rattle.std.specs.Prelude.{slice_get}
use Rattle.std.proofs.Common.{◌<◌, ◌≡◌, ℕ, Some, length}
use Rattle.visit_sequences.specs.declared.goals.Goal.{Goal}
use Rattle.visit_sequences.specs.Steps.{AreFree, AreListed, HasSeen, StandsIn}
use Rattle.visit_sequences.proofs.queue.Queue.start.Given as goal

-- it says of the goals so far how they stand
abbrev pub invariant-loop-at : goal.invariant-loop-at
invariant-loop-at l = record {
  free : AreFree l.progress l.goals l.queue;
  seen : HasSeen l.progress l.goals l.queue;
  stands : (i : ℕ) (g : Goal) → i < l.at → slice_get l.goals i ≡ Some g → StandsIn l.progress l.queue i g;
  listed : AreListed l.progress l.queue;
  count : length l.queue.free.items ≡ length l.progress.evaluated.items;
}
