use Rattle.std.proofs.Common.{◌∙◌, sym, ap}
use Rattle.sequence_checker.specs.Sets.{has_each}
use Rattle.sequence_checker.proofs.ItemLemmas.{early-leave, right-leave}
use Rattle.sequence_checker.proofs.progress.Progress.leave_fault.Goals as goal

pub returns-then-not-has_all : goal.returns-then-not-has_all
returns-then-not-has_all c = λ symbols before follows.
    early-leave c.args.visits.now c.args.rule.now before c.args.self.now follows symbols c.args.visit c.in-Some.class.now c.in-Some.ensures (c.is_next.ensures.0 c.if-not-is_next.false)
    (sym (ap (has_each c.args.self.now.evaluated 0) c.as_slice.ensures) ∙ (sym c.has_all.ensures ∙ c.if-not-has_all.true))

pub returns : goal.returns
returns c = λ symbols before follows.
    right-leave c.args.visits.now c.args.rule.now before c.args.self.now follows symbols c.args.visit c.in-Some.class.now c.in-Some.ensures (c.is_next.ensures.0 c.if-not-is_next.false)
    (sym (ap (has_each c.args.self.now.evaluated 0) c.as_slice.ensures) ∙ (sym c.has_all.ensures ∙ c.if-not-has_all.false))
