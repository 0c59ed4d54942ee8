use Rattle.core_machine.specs.Notes.{AreEntries}
use Rattle.core_machine.proofs.notes.messages.Given as goal

-- the messages of the nodes so far
abbrev pub invariant-loop-node : goal.invariant-loop-node
invariant-loop-node l = AreEntries l.job l.values l.node 0 l.entries.items
