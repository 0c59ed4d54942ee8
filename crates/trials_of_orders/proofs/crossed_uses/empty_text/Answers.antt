use Rattle.std.proofs.Common.{◌∙◌, ap}
use Rattle.lido_base.specs.declared.operation.Op.TheVariants.{Null}
use Rattle.flat_grammar.specs.declared.flat.FlatExpr.TheVariants as expr
use Rattle.trials_of_orders.proofs.NoArgument.{call-none}
use Rattle.trials_of_orders.proofs.crossed_uses.empty_text.Goals as goal

pub returns : goal.returns
returns c = ap (λ l. expr.Apply 0 Null l) c.new.ensures ∙ call-none 0 Null
