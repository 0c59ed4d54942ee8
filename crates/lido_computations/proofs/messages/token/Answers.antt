use Rattle.std.specs.Prelude.{refl}
use Rattle.lido_base.specs.Reading.{nothing}
use Rattle.lido_computations.proofs.PhrasesLemmas.{sees_finds, sees_refuses}
use Rattle.lido_computations.proofs.messages.token.Goals as goal

pub returns-in-Some-clause-reads : goal.returns-in-Some-clause-reads
returns-in-Some-clause-reads c = sees_finds c.args.wanted nothing c.args.tokens.now c.in-Some.rest.now c.in-Some.found c.in-Some.ensures.seen

pub returns-in-None-clause-reads : goal.returns-in-None-clause-reads
returns-in-None-clause-reads c = rw c.stop.ensures (c.args.tokens.now, sees_refuses c.args.wanted nothing c.args.tokens.now c.in-None.ensures.seen, refl)
