use Rattle.std.proofs.Common.{sym, subst}
use Rattle.large_grammars.specs.Sizes.{IsRuleAt}
use Rattle.large_grammars.proofs.Places.{count-push, each-push}
use Rattle.large_grammars.proofs.grammars.rules.Goals as goal

pub loop-j-preserved : goal.loop-j-preserved
loop-j-preserved c = record {
  all = count-push c.loop-j.list c.push.new.self c.in_ok-rule.rule c.loop-j.j c.loop-j.invariant.all c.in_ok-push.ensures.ok;
  each = each-push (IsRuleAt c.args.size) c.loop-j.list c.push.new.self c.in_ok-rule.rule c.loop-j.invariant.each c.in_ok-push.ensures.ok (subst (λ n. IsRuleAt c.args.size n c.in_ok-rule.rule) (sym c.loop-j.invariant.all) c.in_ok-rule.ensures);
}
