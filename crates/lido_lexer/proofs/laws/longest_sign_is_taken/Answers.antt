use Rattle.lido_lexer.proofs.SignsLemmas.{longest_taken}
use Rattle.lido_lexer.proofs.laws.longest_sign_is_taken.Goals as goal

pub returns : goal.returns
returns c = longest_taken
