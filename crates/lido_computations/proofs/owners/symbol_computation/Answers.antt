use Rattle.lido_lexer.proofs.Reading.{gains_none}
use Rattle.std.specs.Prelude.{refl}
use Rattle.lido_computations.proofs.FunctionsLemmas.{keeps_none}
use Rattle.lido_computations.proofs.PhrasesLemmas.{reads_by}
use Rattle.lido_computations.proofs.MessagesLemmas.{symbol_leads, symbol_refuses, no_word_next}
use Rattle.lido_computations.proofs.owners.symbol_computation.Goals as goal

pub returns-in_default-clause-reads : goal.returns-in_default-clause-reads
returns-in_default-clause-reads c = rw c.stop.ensures (λ texts g d. (c.args.tokens.now, symbol_refuses c.args.words texts c.args.number c.args.tokens.now _ _ c.in_default.ensures.seen, refl))

pub returns-in_default-clause-kept : goal.returns-in_default-clause-kept
returns-in_default-clause-kept c = gains_none _

pub returns-in_default-clause-same : goal.returns-in_default-clause-same
returns-in_default-clause-same c = keeps_none _

pub returns-clause-reads : goal.returns-clause-reads
returns-clause-reads c = λ texts g d. reads_by (λ one. one) _ _ _ _ _ _ _ (symbol_leads c.args.words texts c.args.number c.args.tokens.now (no_word_next c.args.words texts c.args.number c.args.tokens.now c.in-None.ensures.seen)) _ (c.computation.ensures.reads texts g d)
