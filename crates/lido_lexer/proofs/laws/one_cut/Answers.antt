use Rattle.lido_lexer.proofs.One.{one_cut}
use Rattle.lido_lexer.proofs.laws.one_cut.Goals as goal

pub returns : goal.returns
returns c = λ text first second stuck other a b. one_cut a b
