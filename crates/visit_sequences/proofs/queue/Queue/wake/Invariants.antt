use Rattle.std.specs.Prelude.{slice_get}
use Rattle.std.proofs.Common.{◌≡◌, ℕ, Some, length}
use Rattle.visit_sequences.specs.declared.goals.Goal.{Goal}
use Rattle.visit_sequences.specs.Steps.{AreFree, AreListed, AreWithin, HasSeen}
use Rattle.visit_sequences.proofs.QueueLemmas.{IsLate}
use Rattle.visit_sequences.proofs.queue.Queue.wake.Given as goal

-- each goal stands somewhere, or waits for something given that it was not woken for yet
abbrev pub invariant-loop-missing : goal.invariant-loop-missing
invariant-loop-missing l = record {
  free : AreFree l.progress l.goals l.self;
  seen : HasSeen l.progress l.goals l.self;
  listed : AreListed l.progress l.self;
  within : AreWithin l.goals (length l.self.free.items);
  late : (i : ℕ) (g : Goal) → slice_get l.goals i ≡ Some g → IsLate l.progress l.self l.given l.missing-index i g;
}
