use Rattle.lido_lexer.proofs.TablesLemmas.{one_table_and_tokens}
use Rattle.lido_lexer.proofs.laws.one_table_and_tokens.Goals as goal

pub returns : goal.returns
returns c = one_table_and_tokens
