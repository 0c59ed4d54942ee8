use Rattle.lido_computations.proofs.PhrasesLemmas.{reads_by}
use Rattle.lido_computations.proofs.MessagesLemmas.{if_leads, message_leads, usual_leads}
use Rattle.lido_computations.proofs.owners.rule_computation.Goals as goal

pub returns-in-Some-clause-reads : goal.returns-in-Some-clause-reads
returns-in-Some-clause-reads c = λ texts g d. reads_by (λ one. one) _ _ _ _ _ _ _ (if_leads c.args.words texts c.args.number c.args.tokens.now c.in-Some.rest.now c.in-Some.word c.in-Some.ensures.seen) _ (c.conditional.ensures.reads texts g d)

pub returns-in-Some-after_message-clause-reads : goal.returns-in-Some-after_message-clause-reads
returns-in-Some-after_message-clause-reads c = λ texts g d. reads_by (λ one. one) _ _ _ _ _ _ _ (message_leads c.args.words texts c.args.number c.args.tokens.now c.in-Some-after_message.rest.now c.in-Some-after_message.word c.in-Some-after_message.ensures.0 (c.in-Some-after_message.ensures.1, c.in-Some-after_message.ensures.2, c.in-Some-after_message.ensures.3)) _ (c.unconditional.ensures.reads texts g d)

pub returns-clause-reads : goal.returns-clause-reads
returns-clause-reads c = λ texts g d. reads_by (λ one. one) _ _ _ _ _ _ _ (usual_leads c.args.words texts c.args.number c.args.tokens.now c.in_default.ensures.seen c.in_default-after_message.ensures) _ (c.computation.ensures.reads texts g d)
