use Rattle.lido_syntax.proofs.ExpressionLemmas.{same_value}
use Rattle.lido_syntax.proofs.laws.values_ask_the_tails_they_read.Goals as goal

pub returns : goal.returns
returns c = same_value
