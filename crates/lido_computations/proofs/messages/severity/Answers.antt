use Rattle.std.specs.Prelude.{refl}
use Rattle.lido_computations.proofs.MessagesLemmas.{severity_finds, severity_refuses, no_name, no_severity}
use Rattle.lido_computations.proofs.messages.severity.Goals as goal

pub returns-in_default-clause-reads : goal.returns-in_default-clause-reads
returns-in_default-clause-reads c = rw c.stop.ensures (c.args.tokens.now, severity_refuses c.args.words c.args.tokens.now (no_name c.args.words c.args.tokens.now c.in_default.ensures.seen), refl)

pub returns-in-Some-severity_of-clause-reads : goal.returns-in-Some-severity_of-clause-reads
returns-in-Some-severity_of-clause-reads c =
    severity_finds c.args.words c.args.tokens.now c.in-Some.rest.now c.in-Some.word c.in-Some-severity_of.found c.in-Some.ensures.seen (cc (c.severity_of.ensures, c.in-Some-severity_of.is))

pub returns-in-None-clause-reads : goal.returns-in-None-clause-reads
returns-in-None-clause-reads c =
    rw c.stop-in-None.ensures (c.args.tokens.now, severity_refuses c.args.words c.args.tokens.now (no_severity c.args.words c.args.tokens.now c.in-Some.rest.now c.in-Some.word c.in-Some.ensures.seen (cc (c.severity_of.ensures, c.in-None.is))), refl)
