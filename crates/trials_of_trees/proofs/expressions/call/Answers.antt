use Rattle.std.proofs.Common.{◌∙◌, ap}
use Rattle.lido_base.specs.declared.operation.Op.TheVariants.{Numb}
use Rattle.flat_grammar.specs.declared.flat.FlatExpr.TheVariants as expr
use Rattle.trials_of_grammar.proofs.OneArgument.{call-one}
use Rattle.trials_of_trees.proofs.expressions.call.Goals as goal

pub returns : goal.returns
returns c = ap (λ l. expr.Apply 0 Numb l) c.in_ok-one.ensures ∙ call-one 0 Numb _
