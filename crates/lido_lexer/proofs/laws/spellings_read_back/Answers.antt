use Rattle.lido_lexer.proofs.KeywordsLemmas.{keyword_back}
use Rattle.lido_lexer.proofs.SignsLemmas.{sign_back}
use Rattle.lido_lexer.proofs.laws.spellings_read_back.Goals as goal

pub returns-clause-keyword : goal.returns-clause-keyword
returns-clause-keyword c = keyword_back

pub returns-clause-sign : goal.returns-clause-sign
returns-clause-sign c = sign_back
