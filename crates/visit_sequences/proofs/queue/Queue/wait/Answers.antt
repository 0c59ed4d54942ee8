use Rattle.std.proofs.Common.{sym, subst}
use Rattle.visit_sequences.specs.Steps.{HasBit}
use Rattle.visit_sequences.proofs.QueueLemmas.{waits-more, waits-here}
use Rattle.visit_sequences.proofs.queue.Queue.wait.Goals as goal

pub returns-clause-keeps : goal.returns-clause-keeps
returns-clause-keeps c = record {
  free = λ o b. subst (λ f. HasBit f.items o) (sym c.woken-goals.ensures.free) b;
  waits = waits-more c.args.self.now.waiting c.woken-goals.new.self.waiting c.insert.new.self c.args.missing c.woken-goals.result.items c.args.goal (record { goals = c.push.new.self }) c.in_ok-push.ensures.items
      c.woken-goals.ensures.others c.woken-goals.ensures.here c.in_ok-insert.ensures.updates.1 c.in_ok-insert.ensures.updates.2;
}

pub returns-clause-waits : goal.returns-clause-waits
returns-clause-waits c = waits-here c.insert.new.self c.args.missing c.woken-goals.result.items c.args.goal (record { goals = c.push.new.self }) c.in_ok-push.ensures.items c.in_ok-insert.ensures.updates.1
