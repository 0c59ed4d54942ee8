use Rattle.std.proofs.Common.{◌∙◌, sym}
use Rattle.sequence_checker.proofs.Bools.{never}
use Rattle.sequence_checker.proofs.EndLemmas.{no-goals, no-visits, no-end, right-end}
use Rattle.sequence_checker.proofs.progress.Progress.end_fault.Goals as goal

pub returns-then-not-has_goals : goal.returns-then-not-has_goals
returns-then-not-has_goals c = λ follows. no-goals c.args.symbols.now c.args.visits.now c.args.rule.now c.args.seq.now c.args.self.now follows (sym c.has_goals.ensures ∙ c.if-not-has_goals.true)

pub returns-then-not-has_visits : goal.returns-then-not-has_visits
returns-then-not-has_visits c = λ follows. no-visits c.args.symbols.now c.args.visits.now c.args.rule.now c.args.seq.now c.args.self.now follows (sym c.has_goals.ensures ∙ c.if-not-has_goals.false)
    (λ all. never (sym c.if-not-has_visits.true ∙ c.has_visits.ensures.1 all))

pub returns-then-not-ends_last_visit : goal.returns-then-not-ends_last_visit
returns-then-not-ends_last_visit c = λ follows. no-end c.args.symbols.now c.args.visits.now c.args.rule.now c.args.seq.now c.args.self.now follows (sym c.has_goals.ensures ∙ c.if-not-has_goals.false)
    (c.has_visits.ensures.0 c.if-not-has_visits.false) (λ ends. never (sym c.if-not-ends_last_visit.true ∙ (c.ends_last_visit.ensures c.args.symbols.now).1 ends))

pub returns : goal.returns
returns c = λ follows. right-end c.args.symbols.now c.args.visits.now c.args.rule.now c.args.seq.now c.args.self.now follows (sym c.has_goals.ensures ∙ c.if-not-has_goals.false)
    (c.has_visits.ensures.0 c.if-not-has_visits.false) ((c.ends_last_visit.ensures c.args.symbols.now).0 c.if-not-ends_last_visit.false)
