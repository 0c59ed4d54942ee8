use Rattle.std.specs.Prelude.{refl}
use Rattle.lido_syntax.proofs.ExpressionLemmas.{parts_of_args}
use Rattle.trials_of_syntax.proofs.expressions.parts_of_a_message.Goals as goal

pub returns : goal.returns
returns c = record { parts = simp (parts_of_args) refl; leaves = simp (parts_of_args) refl; uses = simp (parts_of_args) refl }
