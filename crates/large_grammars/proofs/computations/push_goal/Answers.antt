use Rattle.std.proofs.Common.{sym, ◌∙◌, true≢false}
use Rattle.large_grammars.proofs.ComputationLemmas.{before-push, before-skip}
use Rattle.large_grammars.proofs.computations.push_goal.Goals as goal

pub returns-then-not-is_goal : goal.returns-then-not-is_goal
returns-then-not-is_goal c = before-skip c.args.size c.args.k c.args.a c.args.comps.now.items c.requires.before (λ e. true≢false (sym (c.is_goal.ensures.1 e) ∙ c.if-not-is_goal.true))

pub returns : goal.returns
returns c = before-push c.args.size c.args.k c.args.a c.args.comps.now.items c.push.new.self.items c.in_ok-comp.comp c.requires.before c.in_ok-push.ensures.items c.in_ok-comp.ensures.goal c.in_ok-comp.ensures.inside
