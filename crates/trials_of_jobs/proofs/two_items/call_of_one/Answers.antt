use Rattle.std.proofs.Common.{◌∙◌, ap}
use Rattle.flat_grammar.specs.declared.flat.FlatExpr.TheVariants as expr
use Rattle.trials_of_grammar.proofs.OneArgument.{call-one}
use Rattle.trials_of_jobs.proofs.two_items.call_of_one.Goals as goal

pub returns : goal.returns
returns c = ap (λ l. expr.Apply c.args.comp c.args.op l) c.in_ok-one.ensures ∙ call-one c.args.comp c.args.op _
