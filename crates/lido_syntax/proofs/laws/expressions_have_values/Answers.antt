use Rattle.lido_syntax.proofs.DecidedLemmas.{a_value}
use Rattle.lido_syntax.proofs.laws.expressions_have_values.Goals as goal

pub returns : goal.returns
returns c = a_value
