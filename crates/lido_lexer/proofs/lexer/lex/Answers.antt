use Rattle.std.proofs.Common.{inr}
use Rattle.lido_lexer.proofs.One.{lexed_is, stuck_is, cut_lexes, cut_stuck}
use Rattle.lido_lexer.proofs.TablesLemmas.{read_is, unread_is}
use Rattle.lido_lexer.proofs.lexer.lex.Goals as goal

pub returns-in-Some-clause-gives : goal.returns-in-Some-clause-gives
returns-in-Some-clause-gives c = inr (stuck_is c.args.text.now c.in-Some.at (cut_stuck c.in-Some.at c.in-Ok.ensures.cut c.in-Some.is))

pub returns-in-Some-clause-reads : goal.returns-in-Some-clause-reads
returns-in-Some-clause-reads c = inr (unread_is c.args.strings.now c.args.text.now c.in-Some.at c.in-Ok.ensures.cut c.in-Some.is)

pub returns-clause-gives : goal.returns-clause-gives
returns-clause-gives c = lexed_is c.args.text.now _ (cut_lexes c.in-Ok.ensures.cut c.in_default.is)

pub returns-clause-reads : goal.returns-clause-reads
returns-clause-reads c =
    read_is c.args.strings.now c.args.text.now c.lex_as_far.new.strings c.in-Ok.lexed.tokens.items c.len-texts.ensures.distinct c.in-Ok.ensures.cut c.in_default.is c.in-Ok.ensures.table c.in-Ok.ensures.ids
