use Rattle.std.proofs.lemmas.Result.{err_from_is_err_and}
use Rattle.lido_base.specs.Reading.{nothing}
use Rattle.lido_lexer.specs.declared.sign.Sign.TheVariants as sign
use Rattle.lido_lexer.specs.declared.token.TokenKind.TheVariants as kind
use Rattle.lido_computations.specs.Places.{is_bracket}
use Rattle.lido_computations.proofs.PhrasesLemmas.{past, ends, never, refused_first, then_completable, done_completable, sees_completable, name_completable, token_stops}
use Rattle.lido_computations.proofs.PlacesLemmas.{sign_no_bracket}
use Rattle.lido_computations.proofs.ComputationsLemmas.{chain_leads, place_leads}
use Rattle.lido_computations.proofs.computations.target.Goals as goal

pub returns-in_err-_head-clause-reads : goal.returns-in_err-_head-clause-reads
returns-in_err-_head-clause-reads c =
    let p = err_from_is_err_and c.from_residual.result c.from_residual.ensures.1 in
    let l0 = chain_leads _ _ _ c.in-Some.ensures.seen in
    rw (p.1, p.2) (refused_first _ _ _ _ _ _ (never _ _) _ _ _ l0 (λ a. (then_completable _ _ (sees_completable (kind.Sign sign.Dot)) (λ a. (then_completable _ _ name_completable (λ a. (done_completable _)))))) _ c.in_err-_head.ensures.reads)

pub returns-in_err-_dot-clause-reads : goal.returns-in_err-_dot-clause-reads
returns-in_err-_dot-clause-reads c =
    let p = err_from_is_err_and c.from_residual-in_err-_dot.result c.from_residual-in_err-_dot.ensures.1 in
    let l0 = chain_leads _ _ _ c.in-Some.ensures.seen in
    let l1 = past _ _ _ _ _ _ (never _ _) _ _ _ _ l0 c.in_ok-_head.ensures.reads in
    rw (p.1, p.2) (refused_first _ _ _ _ _ _ (never _ _) _ _ _ l1 (λ a. (then_completable _ _ name_completable (λ a. (done_completable _)))) _ c.in_err-_dot.ensures.reads)

pub returns-in_err-chain-clause-reads : goal.returns-in_err-chain-clause-reads
returns-in_err-chain-clause-reads c =
    let p = err_from_is_err_and c.from_residual-in_err-chain.result c.from_residual-in_err-chain.ensures.1 in
    let l0 = chain_leads _ _ _ c.in-Some.ensures.seen in
    let l1 = past _ _ _ _ _ _ (never _ _) _ _ _ _ l0 c.in_ok-_head.ensures.reads in
    let l2 = past _ _ _ _ _ _ (never _ _) _ _ _ _ l1 c.in_ok-_dot.ensures.reads in
    rw (p.1, p.2) (refused_first _ _ _ _ _ _ (never _ _) _ _ _ l2 (λ a. (done_completable _)) _ c.in_err-chain.ensures.reads)

pub returns-in-Some-clause-reads : goal.returns-in-Some-clause-reads
returns-in-Some-clause-reads c =
    let l0 = chain_leads _ _ _ c.in-Some.ensures.seen in
    let l1 = past _ _ _ _ _ _ (never _ _) _ _ _ _ l0 c.in_ok-_head.ensures.reads in
    let l2 = past _ _ _ _ _ _ (never _ _) _ _ _ _ l1 c.in_ok-_dot.ensures.reads in
    let l3 = past _ _ _ _ _ _ (never _ _) _ _ _ _ l2 c.in_ok-chain.ensures.reads in
    ends _ _ _ _ _ _ l3

pub returns-in_err-found-clause-reads : goal.returns-in_err-found-clause-reads
returns-in_err-found-clause-reads c =
    let p = err_from_is_err_and c.from_residual-in_err-found.result c.from_residual-in_err-found.ensures.1 in
    let l0 = place_leads c.args.tokens.now c.in_default.ensures.seen in
    rw (p.1, p.2) (refused_first _ _ _ _ _ _ (token_stops (kind.Sign sign.Dot) is_bracket nothing _ sign_no_bracket) _ _ _ l0 (λ a. (then_completable _ _ (sees_completable (kind.Sign sign.Dot)) (λ a. (then_completable _ _ name_completable (λ a. (done_completable _)))))) _ c.in_err-found.ensures.reads)

pub returns-in_err-_before-clause-reads : goal.returns-in_err-_before-clause-reads
returns-in_err-_before-clause-reads c =
    let p = err_from_is_err_and c.from_residual-in_err-_before.result c.from_residual-in_err-_before.ensures.1 in
    let l0 = place_leads c.args.tokens.now c.in_default.ensures.seen in
    let l1 = past _ _ _ _ _ _ (token_stops (kind.Sign sign.Dot) is_bracket nothing _ sign_no_bracket) _ _ _ _ l0 c.in_ok-found.ensures.reads in
    rw (p.1, p.2) (refused_first _ _ _ _ _ _ (never _ _) _ _ _ l1 (λ a. (then_completable _ _ name_completable (λ a. (done_completable _)))) _ c.in_err-_before.ensures.reads)

pub returns-in_err-attribute-clause-reads : goal.returns-in_err-attribute-clause-reads
returns-in_err-attribute-clause-reads c =
    let p = err_from_is_err_and c.from_residual-in_err-attribute.result c.from_residual-in_err-attribute.ensures.1 in
    let l0 = place_leads c.args.tokens.now c.in_default.ensures.seen in
    let l1 = past _ _ _ _ _ _ (token_stops (kind.Sign sign.Dot) is_bracket nothing _ sign_no_bracket) _ _ _ _ l0 c.in_ok-found.ensures.reads in
    let l2 = past _ _ _ _ _ _ (never _ _) _ _ _ _ l1 c.in_ok-_before.ensures.reads in
    rw (p.1, p.2) (refused_first _ _ _ _ _ _ (never _ _) _ _ _ l2 (λ a. (done_completable _)) _ c.in_err-attribute.ensures.reads)

pub returns-clause-reads : goal.returns-clause-reads
returns-clause-reads c =
    let l0 = place_leads c.args.tokens.now c.in_default.ensures.seen in
    let l1 = past _ _ _ _ _ _ (token_stops (kind.Sign sign.Dot) is_bracket nothing _ sign_no_bracket) _ _ _ _ l0 c.in_ok-found.ensures.reads in
    let l2 = past _ _ _ _ _ _ (never _ _) _ _ _ _ l1 c.in_ok-_before.ensures.reads in
    let l3 = past _ _ _ _ _ _ (never _ _) _ _ _ _ l2 c.in_ok-attribute.ensures.reads in
    ends _ _ _ _ _ _ l3
