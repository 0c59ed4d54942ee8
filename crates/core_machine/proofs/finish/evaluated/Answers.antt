use Rattle.std.specs.Prelude.{vec_capacity}
use Rattle.std.proofs.Common.{◌∙◌, ap, sym, subst, length}
use Rattle.core_machine.specs.Core.{Task}
use Rattle.core_machine.specs.Runs.{IsStackFor}
use Rattle.core_machine.specs.Slots.{all_offsets, offset}
use Rattle.core_machine.proofs.RunLemmas.{begun}
use Rattle.core_machine.proofs.finish.evaluated.Goals as goal

pub empty_values-requires : goal.empty_values-requires
empty_values-requires c = c.requires ∙ ap all_offsets (sym c.job.ensures)

pub evaluate_all-requires-clause-opening : goal.evaluate_all-requires-clause-opening
evaluate_all-requires-clause-opening c = begun c.args.whole.now c.facts.ensures c.as_mut_slice.result.now c.as_mut_slice-2.result.now
    (ap length c.as_mut_slice.ensures.value ∙ c.in_ok-values.ensures ∙ ap (λ (t : Task). offset t (length t.flat)) c.job.ensures)
    (c.as_mut_slice-2.ensures.value ∙ c.in_ok-rooms.ensures)

pub evaluate_all-requires-clause-stack : goal.evaluate_all-requires-clause-stack
evaluate_all-requires-clause-stack c = subst (λ (t : Task). IsStackFor t (vec_capacity c.in_ok-stack.stack)) c.job-2.ensures c.in_ok-stack.ensures.room
