use Rattle.std.proofs.Common.{◌∙◌, ap}
use Rattle.lido_base.specs.declared.operation.Op.TheVariants as op
use Rattle.flat_grammar.specs.declared.flat.FlatExpr.TheVariants as expr
use Rattle.trials_of_jobs.proofs.TwoArguments.{call-two}
use Rattle.trials_of_jobs.proofs.two_items.sum.Goals as goal

pub returns : goal.returns
returns c = ap (λ l. expr.Apply c.args.comp op.Add l) c.in_ok-two.ensures ∙ call-two c.args.comp op.Add _ _
