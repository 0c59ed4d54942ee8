use Rattle.lido_lexer.proofs.FrontsLemmas.{no_front}
use Rattle.lido_lexer.proofs.lexeme.lexeme_front.Goals as goal

pub returns-in-None-clause-none : goal.returns-in-None-clause-none
returns-in-None-clause-none c = no_front c.in_default.ensures.none c.in_default-number_front.ensures.none c.in_default-sign_front.ensures.none
    c.in_default-literal_front.ensures.none (rw c.in-None.is at c.in_ok-text.ensures.none)
