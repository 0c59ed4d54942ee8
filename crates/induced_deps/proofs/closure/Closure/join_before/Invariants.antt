use Rattle.std.proofs.Common.{◌≡◌, length}
use Rattle.induced_deps.proofs.ClosureLemmas.{AreJoined}
use Rattle.induced_deps.proofs.closure.Closure.join_before.Given as goal

abbrev pub invariant-loop-v : goal.invariant-loop-v
invariant-loop-v l = record {
  size : length l.self.rows.items ≡ length l.initial.self.rows.items;
  joined : AreJoined l.initial.self.rows.items l.self.rows.items l.from l.set.words l.v;
}
