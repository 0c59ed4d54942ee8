use Rattle.lido_syntax.proofs.MessageLemmas.{one_result}
use Rattle.lido_syntax.proofs.laws.one_result_of_an_attribution.Goals as goal

pub returns : goal.returns
returns c = one_result
