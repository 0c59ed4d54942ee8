use Rattle.lido_top.proofs.OneAnswerLemmas.{one_answer}
use Rattle.lido_top.proofs.laws.one_answer.Goals as goal

pub returns : goal.returns
returns c = one_answer
