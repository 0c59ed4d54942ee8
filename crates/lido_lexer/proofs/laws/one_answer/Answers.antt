use Rattle.lido_lexer.proofs.One.{one_answer}
use Rattle.lido_lexer.proofs.laws.one_answer.Goals as goal

pub returns : goal.returns
returns c = λ text first second one other. one_answer text second first other one
