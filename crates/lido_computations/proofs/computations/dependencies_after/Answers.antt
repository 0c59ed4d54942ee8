use Rattle.std.specs.Prelude.{◌≡◌, []}
use Rattle.std.proofs.Common.{arith}
use Rattle.std.proofs.lemmas.Grind.{common_steps}
use Rattle.lido_computations.proofs.PhrasesLemmas.{reads_by}
use Rattle.lido_computations.proofs.ComputationsLemmas.{after_leads, after_ends}
use Rattle.lido_computations.proofs.computations.dependencies_after.Goals as goal

pub returns-in-Some-clause-reads : goal.returns-in-Some-clause-reads
returns-in-Some-clause-reads c =
    reads_by (λ x. (x.0.items, x.1)) _ _ _ _ _ _ _ (after_leads c.args.number _ _ _ c.in-Some.ensures.seen) c.dependencies.result c.dependencies.ensures.reads

pub returns-in-None-clause-reads : goal.returns-in-None-clause-reads
returns-in-None-clause-reads c =
    let items : c.new.result.items ≡ [] = grind (arith, common_steps) in
    rw items (after_ends c.args.number c.args.tokens.now c.in-None.ensures.seen)
