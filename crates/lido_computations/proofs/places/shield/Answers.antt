use Rattle.std.specs.Prelude.{◌≡◌, []}
use Rattle.std.proofs.Common.{arith}
use Rattle.std.proofs.lemmas.Grind.{common_steps}
use Rattle.lido_computations.proofs.PhrasesLemmas.{reads_by}
use Rattle.lido_computations.proofs.PlacesLemmas.{shield_leads, shield_ends}
use Rattle.lido_computations.proofs.places.shield.Goals as goal

pub returns-in-Some-clause-reads : goal.returns-in-Some-clause-reads
returns-in-Some-clause-reads c =
    reads_by (λ names. names.items) _ _ _ _ _ _ _ (shield_leads _ _ _ c.in-Some.ensures.seen) c.listed_names.result c.listed_names.ensures.reads

pub returns-in-None-clause-reads : goal.returns-in-None-clause-reads
returns-in-None-clause-reads c =
    let items : c.new.result.items ≡ [] = grind (arith, common_steps) in
    rw items (shield_ends c.args.tokens.now c.in-None.ensures.seen)
