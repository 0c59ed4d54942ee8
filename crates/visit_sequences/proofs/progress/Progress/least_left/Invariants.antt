use Rattle.std.proofs.Common.{◌≡◌, length}
use Rattle.visit_sequences.specs.Steps.{AreListed}
use Rattle.visit_sequences.proofs.progress.Progress.least_left.Given as goal

-- the queue is the same but for what it lists, and lists the occurrences at which a goal is left
abbrev pub invariant-loop-occ : goal.invariant-loop-occ
invariant-loop-occ l = record {
  free : l.queue.free ≡ l.fn.queue.free;
  waiting : l.queue.waiting ≡ l.fn.queue.waiting;
  seen : l.queue.seen ≡ l.fn.queue.seen;
  listed : AreListed l.self l.queue;
}

abbrev pub decreases-loop-occ : goal.decreases-loop-occ
decreases-loop-occ l = length l.queue.left.occurrences.keys
