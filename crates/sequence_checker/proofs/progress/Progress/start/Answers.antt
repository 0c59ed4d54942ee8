use Rattle.std.proofs.Common.{◌∙◌, ap, ◌+◌}
use Rattle.std.specs.Prelude.{replicate}
use Rattle.sequence_checker.specs.Sets.{has}
use Rattle.sequence_checker.proofs.StepLemmas.{follows-start}
use Rattle.sequence_checker.proofs.progress.Progress.start.Goals as goal

pub returns : goal.returns
returns c =
    let e = c.in_ok-give.ensures in
    follows-start c.args.visits.now c.args.rule.now c.give.new.self c.new-2.result c.new-2.ensures
    (λ o. ap (λ s. has s o) e.same.0 ∙ c.new.ensures o) e.given (ap (λ (m : _). m.items) e.same.1 ∙ (c.in_ok-zeros.ensures ∙ ap (λ n. replicate (n + 1) 0) c.len.ensures))
