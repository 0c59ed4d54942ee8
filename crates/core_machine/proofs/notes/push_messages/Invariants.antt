use Rattle.core_machine.specs.Notes.{AreEntries}
use Rattle.core_machine.proofs.notes.push_messages.Given as goal

-- the messages so far
abbrev pub invariant-loop-k : goal.invariant-loop-k
invariant-loop-k l = AreEntries l.job l.values l.node l.k l.entries.items
