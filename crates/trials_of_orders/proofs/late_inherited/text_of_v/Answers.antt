use Rattle.std.specs.Prelude.{[], ◌∷◌}
use Rattle.std.proofs.Common.{◌∙◌, ap}
use Rattle.lido_base.specs.declared.operation.Op.TheVariants.{Numb}
use Rattle.flat_grammar.specs.declared.flat.FlatExpr.{Read}
use Rattle.flat_grammar.specs.declared.flat.FlatExpr.TheVariants as expr
use Rattle.trials_of_grammar.specs.LateInherited.{S_v}
use Rattle.trials_of_grammar.proofs.OneArgument.{call-one}
use Rattle.trials_of_orders.proofs.late_inherited.text_of_v.Goals as goal

pub returns : goal.returns
returns c = ap (λ l. expr.Apply 2 Numb l) c.in_ok-one.ensures ∙ (ap (λ o. expr.Apply 2 Numb (Read o ∷ [])) c.occurrence.ensures ∙ call-one 2 Numb (Read S_v))
