use Rattle.std.proofs.Common.{◌<◌, suc, length, leb-true, rules}
use Rattle.visit_sequences.proofs.QueueLemmas.{has-left, left-has}
use Rattle.visit_sequences.proofs.progress.Progress.has_left.Goals as goal

pub returns : goal.returns
returns c =
    let p = c.args.self.now in
    let goals = c.args.goals.now in (
      (λ e. has-left p goals c.args.done c.requires.stops (leb-true (suc c.args.done) (length goals) e)),
      (λ h. let l : c.args.done < length goals = left-has p goals c.args.done c.requires.all h in search rules),
    )
