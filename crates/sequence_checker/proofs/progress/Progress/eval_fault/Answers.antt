use Rattle.std.proofs.Common.{◌∙◌, sym}
use Rattle.sequence_checker.proofs.ItemLemmas.{early-eval, right-eval}
use Rattle.sequence_checker.proofs.progress.Progress.eval_fault.Goals as goal

pub returns-then-not-branch : goal.returns-then-not-branch
returns-then-not-branch c = λ visits before follows.
    early-eval visits c.args.rule.now before c.args.self.now follows c.args.symbols.now c.args.goal c.in-Some.comp.now (sym c.is_attribute.ensures ∙ c.if-not-is_attribute.false) c.in-Some.ensures.0 c.in-Some.ensures.1
    (sym c.has.ensures ∙ c.if-has.false) (sym c.in_ok-has_dependencies.ensures ∙ c.if-not-branch.true)

pub returns : goal.returns
returns c = λ visits before follows.
    right-eval visits c.args.rule.now before c.args.self.now follows c.args.symbols.now c.args.goal c.in-Some.comp.now c.requires.rule.once (sym c.is_attribute.ensures ∙ c.if-not-is_attribute.false) c.in-Some.ensures.0 c.in-Some.ensures.1
    (sym c.has.ensures ∙ c.if-has.false) (sym c.in_ok-has_dependencies.ensures ∙ c.if-not-branch.false)
