use Rattle.std.proofs.lemmas.Result.{err_from_is_err_and}
use Rattle.lido_base.specs.Reading.{nothing}
use Rattle.lido_lexer.specs.declared.sign.Sign.TheVariants as sign
use Rattle.lido_lexer.specs.declared.token.TokenKind.TheVariants as kind
use Rattle.lido_computations.specs.Places.{IsRead, is_bracket}
use Rattle.lido_computations.proofs.PhrasesLemmas.{past, refused_first, leads_self, then_completable, done_completable, sees_completable, name_completable, token_stops, reads_by}
use Rattle.lido_computations.proofs.PlacesLemmas.{sign_no_bracket}
use Rattle.lido_computations.proofs.places.read.Goals as goal

pub returns-in_err-found-clause-reads : goal.returns-in_err-found-clause-reads
returns-in_err-found-clause-reads c =
    let p = err_from_is_err_and c.from_residual.result c.from_residual.ensures.1 in
    let l0 = leads_self IsRead nothing c.args.tokens.now in
    rw (p.1, p.2) (refused_first _ _ _ _ _ _ (token_stops (kind.Sign sign.Dot) is_bracket nothing _ sign_no_bracket) _ _ _ l0 (λ a. (then_completable _ _ (sees_completable (kind.Sign sign.Dot)) (λ a. then_completable _ _ name_completable (λ a. done_completable _)))) _ c.in_err-found.ensures.reads)

pub returns-clause-reads : goal.returns-clause-reads
returns-clause-reads c =
    let l0 = leads_self IsRead nothing c.args.tokens.now in
    let l1 = past _ _ _ _ _ _ (token_stops (kind.Sign sign.Dot) is_bracket nothing _ sign_no_bracket) _ _ _ _ l0 c.in_ok-found.ensures.reads in
    reads_by (λ e. e) _ _ _ _ _ _ _ l1 c.attribute_at.result c.attribute_at.ensures.reads
