use Rattle.lido_computations.proofs.PhrasesLemmas.{reads_by}
use Rattle.lido_computations.proofs.PlacesLemmas.{with_leads, with_ends}
use Rattle.lido_computations.proofs.places.with.Goals as goal

pub returns-in-Some-clause-reads : goal.returns-in-Some-clause-reads
returns-in-Some-clause-reads c =
    reads_by (λ with. with) _ _ _ _ _ _ _ (with_leads _ _ _ c.in-Some.ensures.seen) c.with_of.result c.with_of.ensures.reads

pub returns-in-None-clause-reads : goal.returns-in-None-clause-reads
returns-in-None-clause-reads c =
    with_ends c.args.tokens.now c.in-None.ensures.seen
