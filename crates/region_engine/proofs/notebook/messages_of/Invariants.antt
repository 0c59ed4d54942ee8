use Rattle.region_engine.specs.Notebooks.{AreMessagesBefore}
use Rattle.region_engine.proofs.notebook.messages_of.Given as goal

-- the messages of the nodes so far
abbrev pub invariant-loop-node : goal.invariant-loop-node
invariant-loop-node l = AreMessagesBefore l.job l.node 0 l.list.items
