use Rattle.std.specs.Prelude.{◌≡◌, [], ◌∷◌}
use Rattle.std.proofs.Common.{arith}
use Rattle.std.proofs.lemmas.Grind.{common_steps}
use Rattle.std.proofs.lemmas.Result.{err_from_is_err_and}
use Rattle.lido_base.specs.Reading.{nothing}
use Rattle.lido_lexer.specs.declared.sign.Sign.TheVariants as sign
use Rattle.lido_lexer.specs.declared.token.TokenKind.TheVariants as kind
use Rattle.lido_computations.specs.Phrases.{is_comma}
use Rattle.lido_computations.specs.Places.{IsPair}
use Rattle.lido_computations.proofs.PhrasesLemmas.{past, ends, never, refused_first, then_completable, done_completable, sees_completable, token_stops}
use Rattle.lido_computations.proofs.PlacesLemmas.{several_leads, single_leads, pair_apart, close_no_comma}
use Rattle.lido_computations.proofs.places.listed_pairs.Goals as goal

pub returns-in_err-found-clause-reads : goal.returns-in_err-found-clause-reads
returns-in_err-found-clause-reads c =
    let p = err_from_is_err_and c.from_residual.result c.from_residual.ensures.1 in
    let l0 = several_leads IsPair nothing pair_apart _ _ _ c.in-Some.ensures.seen in
    rw (p.1, p.2) (refused_first _ _ _ _ _ _ (token_stops (kind.Sign sign.ParenClose) is_comma nothing _ close_no_comma) _ _ _ l0 (λ a. (then_completable _ _ (sees_completable (kind.Sign sign.ParenClose)) (λ a. (done_completable _)))) _ c.in_err-found.ensures.reads)

pub returns-in_err-_closing-clause-reads : goal.returns-in_err-_closing-clause-reads
returns-in_err-_closing-clause-reads c =
    let p = err_from_is_err_and c.from_residual-in_err-_closing.result c.from_residual-in_err-_closing.ensures.1 in
    let l0 = several_leads IsPair nothing pair_apart _ _ _ c.in-Some.ensures.seen in
    let l1 = past _ _ _ _ _ _ (token_stops (kind.Sign sign.ParenClose) is_comma nothing _ close_no_comma) _ _ _ _ l0 c.in_ok-found.ensures.reads in
    rw (p.1, p.2) (refused_first _ _ _ _ _ _ (never _ _) _ _ _ l1 (λ a. (done_completable _)) _ c.in_err-_closing.ensures.reads)

pub returns-in-Some-clause-reads : goal.returns-in-Some-clause-reads
returns-in-Some-clause-reads c =
    let l0 = several_leads IsPair nothing pair_apart _ _ _ c.in-Some.ensures.seen in
    let l1 = past _ _ _ _ _ _ (token_stops (kind.Sign sign.ParenClose) is_comma nothing _ close_no_comma) _ _ _ _ l0 c.in_ok-found.ensures.reads in
    let l2 = past _ _ _ _ _ _ (never _ _) _ _ _ _ l1 c.in_ok-_closing.ensures.reads in
    ends _ _ _ _ _ _ l2

pub returns-in_err-single-clause-reads : goal.returns-in_err-single-clause-reads
returns-in_err-single-clause-reads c =
    let p = err_from_is_err_and c.from_residual-in_err-single.result c.from_residual-in_err-single.ensures.1 in
    let l0 = single_leads IsPair nothing c.args.tokens.now c.in_default.ensures.seen in
    rw (p.1, p.2) (refused_first _ _ _ _ _ _ (never _ _) _ _ _ l0 (λ a. (done_completable _)) _ c.in_err-single.ensures.reads)

pub returns-clause-reads : goal.returns-clause-reads
returns-clause-reads c =
    let l0 = single_leads IsPair nothing c.args.tokens.now c.in_default.ensures.seen in
    let l1 = past _ _ _ _ _ _ (never _ _) _ _ _ _ l0 c.in_ok-single.ensures.reads in
    let items : c.in_ok-all.all.items ≡ c.in_ok-single.single ∷ [] = grind (arith, common_steps) in
    rw items (ends _ _ _ _ _ _ l1)
