use Rattle.visit_sequences.proofs.QueueLemmas.{least-open, sorts-same}
use Rattle.visit_sequences.proofs.progress.Progress.least_ready.Goals as goal

pub returns-clause-sorts : goal.returns-clause-sorts
returns-clause-sorts c = sorts-same c.args.self.now c.args.goals.now c.args.queue.now c.least_left.new.queue c.least_left.ensures.same c.least_left.ensures.listed c.requires

pub returns-clause-least : goal.returns-clause-least
returns-clause-least c = least-open c.args.self.now c.args.goals.now c.args.queue.now c.requires c.least_left.result c.least_left.ensures.least
