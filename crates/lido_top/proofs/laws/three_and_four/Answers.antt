use Rattle.lido_top.proofs.Row.{is_answer}
use Rattle.lido_top.proofs.laws.three_and_four.Goals as goal

pub returns : goal.returns
returns c = is_answer
