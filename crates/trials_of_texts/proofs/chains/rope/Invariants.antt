use Rattle.std.proofs.Common.{◌≤◌, ◌+◌, ◌*◌}
use Rattle.trials_of_texts.proofs.chains.rope.Given as goal

abbrev pub invariant-loop : goal.invariant-loop
invariant-loop l = record {
  used : l.initial.room.space ≤ l.room.space + 3 * l.counter;
}
