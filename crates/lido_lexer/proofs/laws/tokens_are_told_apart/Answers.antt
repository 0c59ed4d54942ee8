use Rattle.lido_lexer.proofs.TablesLemmas.{same_tokens}
use Rattle.lido_lexer.proofs.laws.tokens_are_told_apart.Goals as goal

pub returns : goal.returns
returns c = λ texts tokens others distinct. same_tokens texts distinct tokens others
