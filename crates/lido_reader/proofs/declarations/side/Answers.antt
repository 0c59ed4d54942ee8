use Rattle.lido_reader.proofs.DeclarationsLemmas.{side_synt, side_inh, side_unsaid}
use Rattle.lido_reader.proofs.declarations.side.Goals as goal

pub returns-in-Some-clause-reads : goal.returns-in-Some-clause-reads
returns-in-Some-clause-reads c = side_synt c.args.tokens.now c.in-Some.rest.now c.in-Some.field-0-0 c.in-Some.ensures.seen

pub returns-in-Some-after_key-clause-reads : goal.returns-in-Some-after_key-clause-reads
returns-in-Some-after_key-clause-reads c = side_inh c.args.tokens.now c.in-Some-after_key.rest.now c.in-Some-after_key.field-0-0 c.in-Some-after_key.ensures.seen

pub returns-clause-reads : goal.returns-clause-reads
returns-clause-reads c = side_unsaid c.args.tokens.now c.in_default.ensures.seen c.in_default-after_key.ensures.seen
