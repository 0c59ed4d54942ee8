use Rattle.std.proofs.Common.{rules, FitsSigned, w64, to_z-of_z}
use Rattle.std.proofs.lemmas.Result.{err_from_is_err_and}
use Rattle.lido_lexer.specs.declared.sign.Sign.TheVariants as sign
use Rattle.lido_lexer.specs.declared.token.TokenKind.TheVariants as kind
use Rattle.lido_computations.proofs.PhrasesLemmas.{past, ends, never, refused_first, then_completable, done_completable, sees_completable}
use Rattle.lido_computations.proofs.PlacesLemmas.{index_leads, index_ends}
use Rattle.lido_computations.proofs.places.index.Goals as goal

pub returns-in_default-clause-reads : goal.returns-in_default-clause-reads
returns-in_default-clause-reads c =
    index_ends c.args.tokens.now c.in_default.ensures.seen

pub returns-in_err-i-clause-reads : goal.returns-in_err-i-clause-reads
returns-in_err-i-clause-reads c =
    let p = err_from_is_err_and c.from_residual.result c.from_residual.ensures.1 in
    let l0 = index_leads _ _ _ c.in-Some.ensures.seen in
    rw (p.1, p.2) (refused_first _ _ _ _ _ _ (never _ _) _ _ _ l0 (λ a. (then_completable _ _ (sees_completable (kind.Sign sign.BracketClose)) (λ a. (done_completable _)))) _ c.in_err-i.ensures.reads)

pub returns-in_err-_closing-clause-reads : goal.returns-in_err-_closing-clause-reads
returns-in_err-_closing-clause-reads c =
    let p = err_from_is_err_and c.from_residual-in_err-_closing.result c.from_residual-in_err-_closing.ensures.1 in
    let l0 = index_leads _ _ _ c.in-Some.ensures.seen in
    let l1 = past _ _ _ _ _ _ (never _ _) _ _ _ _ l0 c.in_ok-i.ensures.reads in
    rw (p.1, p.2) (refused_first _ _ _ _ _ _ (never _ _) _ _ _ l1 (λ a. (done_completable _)) _ c.in_err-_closing.ensures.reads)

pub returns-clause-reads : goal.returns-clause-reads
returns-clause-reads c =
    let l0 = index_leads _ _ _ c.in-Some.ensures.seen in
    let l1 = past _ _ _ _ _ _ (never _ _) _ _ _ _ l0 c.in_ok-i.ensures.reads in
    let l2 = past _ _ _ _ _ _ (never _ _) _ _ _ _ l1 c.in_ok-_closing.ensures.reads in
    let fits : FitsSigned w64 c.in_ok-i.i = search rules in
    rw (to_z-of_z fits) (ends _ _ _ _ _ _ l2)
