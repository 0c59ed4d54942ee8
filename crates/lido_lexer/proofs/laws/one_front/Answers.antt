use Rattle.lido_lexer.proofs.FrontsLemmas.{one_front, one_gap, gap_no_front}
use Rattle.lido_lexer.proofs.laws.one_front.Goals as goal

pub returns-clause-token : goal.returns-clause-token
returns-clause-token c = λ bytes rest other first second. one_front first second bytes rest other

pub returns-clause-gap : goal.returns-clause-gap
returns-clause-gap c = λ bytes rest other one two. one_gap one two

pub returns-clause-apart : goal.returns-clause-apart
returns-clause-apart c = λ bytes rest other shown. gap_no_front shown bytes rest other
