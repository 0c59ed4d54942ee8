use Rattle.std.proofs.Common.{sym, ◌∙◌}
use Rattle.visit_sequences.proofs.QueueLemmas.{waits-other, waited, none-waits}
use Rattle.visit_sequences.proofs.queue.Queue.woken.Goals as goal

pub returns-in-Some-clause-others : goal.returns-in-Some-clause-others
returns-in-Some-clause-others c = waits-other c.args.self.now.waiting c.remove.new.self c.args.missing c.remove.ensures.updates.2

pub returns-in-Some-clause-here : goal.returns-in-Some-clause-here
returns-in-Some-clause-here c = λ i w. waited c.args.self.now.waiting c.args.missing c.in-Some.field-0 i (sym c.in-Some.is ∙ c.remove.ensures.value) w

pub returns-in-None-clause-others : goal.returns-in-None-clause-others
returns-in-None-clause-others c = waits-other c.args.self.now.waiting c.remove.new.self c.args.missing c.remove.ensures.updates.2

pub returns-in-None-clause-here : goal.returns-in-None-clause-here
returns-in-None-clause-here c = λ i w. absurd (none-waits c.args.self.now.waiting c.args.missing i (sym c.in-None.is ∙ c.remove.ensures.value) w)
