use Rattle.std.specs.Prelude.{Some}
use Rattle.std.proofs.Common.{◌≡◌, subst, length}
use Rattle.core_machine.specs.Core.{Task, out}
use Rattle.core_machine.specs.Faults.{IsLeast, IsFaultBefore}
use Rattle.core_machine.specs.Notes.{AreAllEntries}
use Rattle.core_machine.specs.Slots.{found}
use Rattle.core_machine.proofs.FinishLemmas.{result, undivided-entries}
use Rattle.core_machine.proofs.finish.finish.Goals as goal

pub returns : goal.returns
returns c =
    let p = c.in_ok-notes.ensures in
    result c.args.whole.now c.facts.ensures c.args.values.now c.args.rooms.items c.requires.last c.output_of-output.result c.least_fault-bad.result p.0 c.in_ok-notes.notes.items
    (subst (λ (t : Task). found t c.args.values.now (0, out t) ≡ Some c.output_of-output.result) c.job-job.ensures c.output_of-output.ensures)
    (subst (λ (t : Task). IsLeast (IsFaultBefore t c.args.values.now (length t.flat) 0) c.least_fault-bad.result) c.job-job.ensures c.least_fault-bad.ensures)
    (undivided-entries c.args.whole.now c.args.values.now p.0 (subst (λ (t : Task). AreAllEntries t c.args.values.now p.0) c.job-job.ensures p.1)) p.2
