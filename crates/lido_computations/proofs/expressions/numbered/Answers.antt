use Rattle.std.proofs.lemmas.Result.{err_from_is_err_and}
use Rattle.lido_computations.specs.Places.{is_option}
use Rattle.lido_computations.proofs.PhrasesLemmas.{past, ends, refused_first, leads_self, done_completable, done_stops, same_wider}
use Rattle.lido_computations.specs.Parts.{AreNumbered}
use Rattle.lido_computations.proofs.expressions.numbered.Goals as goal

pub returns-in_err-found-clause-reads : goal.returns-in_err-found-clause-reads
returns-in_err-found-clause-reads c =
    let p = err_from_is_err_and c.from_residual.result c.from_residual.ensures.1 in
    let l0 = leads_self (AreNumbered c.args.at c.args.counts) is_option c.args.tokens.now in
    rw (p.1, p.2) (refused_first _ _ _ _ _ _ (done_stops _ _ _ (same_wider _)) _ _ _ l0 (λ a. (done_completable _)) _ c.in_err-found.ensures.reads)

pub returns-clause-reads : goal.returns-clause-reads
returns-clause-reads c =
    let l0 = leads_self (AreNumbered c.args.at c.args.counts) is_option c.args.tokens.now in
    let l1 = past _ _ _ _ _ _ (done_stops _ _ _ (same_wider _)) _ _ _ _ l0 c.in_ok-found.ensures.reads in
    rw c.in_ok-number.ensures.next (rw c.in_ok-boxed.ensures (ends _ _ _ _ _ _ l1))
