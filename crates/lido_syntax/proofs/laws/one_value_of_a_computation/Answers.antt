use Rattle.lido_syntax.proofs.ChainsLemmas.{one_value}
use Rattle.lido_syntax.proofs.laws.one_value_of_a_computation.Goals as goal

pub returns : goal.returns
returns c = one_value
