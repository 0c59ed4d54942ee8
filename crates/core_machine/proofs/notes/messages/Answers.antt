use Rattle.std.proofs.Common.{sym, subst}
use Rattle.core_machine.specs.Notes.{AreEntries}
use Rattle.core_machine.proofs.NoteLemmas.{entries-first}
use Rattle.core_machine.proofs.notes.messages.Goals as goal

pub loop-node-init : goal.loop-node-init
loop-node-init c = subst (AreEntries c.args.job.now c.args.values.now 0 0) (sym c.new-entries.ensures.items) (entries-first c.args.job.now c.args.values.now)
