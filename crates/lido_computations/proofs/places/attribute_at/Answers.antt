use Rattle.std.proofs.lemmas.Result.{err_from_is_err_and}
use Rattle.lido_base.specs.Reading.{nothing}
use Rattle.lido_computations.specs.Places.{IsReadOf}
use Rattle.lido_computations.proofs.PhrasesLemmas.{past, ends, never, refused_first, leads_self, then_completable, done_completable, name_completable}
use Rattle.lido_computations.proofs.places.attribute_at.Goals as goal

pub returns-in_err-_dot-clause-reads : goal.returns-in_err-_dot-clause-reads
returns-in_err-_dot-clause-reads c =
    let p = err_from_is_err_and c.from_residual.result c.from_residual.ensures.1 in
    let l0 = leads_self (IsReadOf (c.args.at, c.args.place)) nothing c.args.tokens.now in
    rw (p.1, p.2) (refused_first _ _ _ _ _ _ (never _ _) _ _ _ l0 (λ a. (then_completable _ _ name_completable (λ a. (done_completable _)))) _ c.in_err-_dot.ensures.reads)

pub returns-in_err-attribute-clause-reads : goal.returns-in_err-attribute-clause-reads
returns-in_err-attribute-clause-reads c =
    let p = err_from_is_err_and c.from_residual-in_err-attribute.result c.from_residual-in_err-attribute.ensures.1 in
    let l0 = leads_self (IsReadOf (c.args.at, c.args.place)) nothing c.args.tokens.now in
    let l1 = past _ _ _ _ _ _ (never _ _) _ _ _ _ l0 c.in_ok-_dot.ensures.reads in
    rw (p.1, p.2) (refused_first _ _ _ _ _ _ (never _ _) _ _ _ l1 (λ a. (done_completable _)) _ c.in_err-attribute.ensures.reads)

pub returns-clause-reads : goal.returns-clause-reads
returns-clause-reads c =
    let l0 = leads_self (IsReadOf (c.args.at, c.args.place)) nothing c.args.tokens.now in
    let l1 = past _ _ _ _ _ _ (never _ _) _ _ _ _ l0 c.in_ok-_dot.ensures.reads in
    let l2 = past _ _ _ _ _ _ (never _ _) _ _ _ _ l1 c.in_ok-attribute.ensures.reads in
    ends _ _ _ _ _ _ l2
