use Rattle.region_engine.specs.Notebooks.{AreMessagesBefore}
use Rattle.region_engine.proofs.notebook.push_messages.Given as goal

-- the messages so far
abbrev pub invariant-loop-k : goal.invariant-loop-k
invariant-loop-k l = AreMessagesBefore l.job l.node l.k l.list.items
