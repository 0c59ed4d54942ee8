use Rattle.visit_sequences.proofs.ChoiceLemmas.{listed-least}
use Rattle.visit_sequences.proofs.progress.Progress.ready_child.Goals as goal

pub returns-then-is_ready_visit-clause-least : goal.returns-then-is_ready_visit-clause-least
returns-then-is_ready_visit-clause-least c = listed-least c.args.visits.now c.args.rule.now c.args.self.now c.loop-occ.ready c.in-Some.occ c.loop-occ.invariant c.in-Some.ensures.1 c.if-occ-gt0.true (c.is_ready_visit.ensures.0 c.if-is_ready_visit.true)

pub returns-clause-least : goal.returns-clause-least
returns-clause-least c = λ j pos within ready. c.in_default.ensures j (c.loop-occ.invariant j pos ready)
