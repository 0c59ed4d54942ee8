use Rattle.std.proofs.lemmas.Result.{err_from_is_err_and}
use Rattle.lido_computations.proofs.PhrasesLemmas.{past, ends, never, refused_first, done_completable, done_stops, same_wider}
use Rattle.lido_computations.proofs.ComputationsLemmas.{including_dependency, constituents_dependency, reading_dependency}
use Rattle.lido_computations.proofs.computations.dependency.Goals as goal

pub returns-in_err-tree-clause-reads : goal.returns-in_err-tree-clause-reads
returns-in_err-tree-clause-reads c =
    let p = err_from_is_err_and c.from_residual.result c.from_residual.ensures.1 in
    let l0 = including_dependency c.args.number _ _ _ c.in-Some.ensures.seen in
    rw (p.1, p.2) (refused_first _ _ _ _ _ _ (never _ _) _ _ _ l0 (λ a. (done_completable _)) _ c.in_err-tree.ensures.reads)

pub returns-in-Some-clause-reads : goal.returns-in-Some-clause-reads
returns-in-Some-clause-reads c =
    let l0 = including_dependency c.args.number _ _ _ c.in-Some.ensures.seen in
    let l1 = past _ _ _ _ _ _ (never _ _) _ _ _ _ l0 c.in_ok-tree.ensures.reads in
    ends _ _ _ _ _ _ l1

pub returns-in_err-found-clause-reads : goal.returns-in_err-found-clause-reads
returns-in_err-found-clause-reads c =
    let p = err_from_is_err_and c.from_residual-in_err-found.result c.from_residual-in_err-found.ensures.1 in
    let l0 = constituents_dependency c.args.number _ _ _ c.in-Some-after_key.ensures.seen in
    rw (p.1, p.2) (refused_first _ _ _ _ _ _ (done_stops _ _ _ (same_wider _)) _ _ _ l0 (λ a. (done_completable _)) _ c.in_err-found.ensures.reads)

pub returns-in-Some-after_key-clause-reads : goal.returns-in-Some-after_key-clause-reads
returns-in-Some-after_key-clause-reads c =
    let l0 = constituents_dependency c.args.number _ _ _ c.in-Some-after_key.ensures.seen in
    let l1 = past _ _ _ _ _ _ (done_stops _ _ _ (same_wider _)) _ _ _ _ l0 c.in_ok-found.ensures.reads in
    rw c.in_ok-behind.ensures.next (rw c.in_ok-boxed.ensures (ends _ _ _ _ _ _ l1))

pub returns-in_err-attribute-clause-reads : goal.returns-in_err-attribute-clause-reads
returns-in_err-attribute-clause-reads c =
    let p = err_from_is_err_and c.from_residual-in_err-attribute.result c.from_residual-in_err-attribute.ensures.1 in
    let l0 = reading_dependency c.args.number c.args.tokens.now c.in_default.ensures.seen c.in_default-after_key.ensures.seen in
    rw (p.1, p.2) (refused_first _ _ _ _ _ _ (never _ _) _ _ _ l0 (λ a. (done_completable _)) _ c.in_err-attribute.ensures.reads)

pub returns-clause-reads : goal.returns-clause-reads
returns-clause-reads c =
    let l0 = reading_dependency c.args.number c.args.tokens.now c.in_default.ensures.seen c.in_default-after_key.ensures.seen in
    let l1 = past _ _ _ _ _ _ (never _ _) _ _ _ _ l0 c.in_ok-attribute.ensures.reads in
    ends _ _ _ _ _ _ l1
