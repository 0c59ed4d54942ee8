use Rattle.std.proofs.lemmas.Result.{err_from_is_err_and}
use Rattle.lido_base.specs.Reading.{nothing}
use Rattle.lido_lexer.specs.declared.sign.Sign.TheVariants as sign
use Rattle.lido_lexer.specs.declared.token.TokenKind.TheVariants as kind
use Rattle.lido_computations.specs.Places.{IsWithOf}
use Rattle.lido_computations.proofs.PhrasesLemmas.{past, ends, never, refused_first, leads_self, then_completable, done_completable, sees_completable, name_completable, type_completable}
use Rattle.lido_computations.proofs.places.with_of.Goals as goal

pub returns-in_err-_opening-clause-reads : goal.returns-in_err-_opening-clause-reads
returns-in_err-_opening-clause-reads c =
    let p = err_from_is_err_and c.from_residual.result c.from_residual.ensures.1 in
    let l0 = leads_self IsWithOf nothing c.args.tokens.now in
    rw (p.1, p.2) (refused_first _ _ _ _ _ _ (never _ _) _ _ _ l0 (λ a. (then_completable _ _ type_completable (λ a. (then_completable _ _ (sees_completable (kind.Sign sign.Comma)) (λ a. (then_completable _ _ name_completable (λ a. (then_completable _ _ (sees_completable (kind.Sign sign.Comma)) (λ a. (then_completable _ _ name_completable (λ a. (then_completable _ _ (sees_completable (kind.Sign sign.Comma)) (λ a. (then_completable _ _ name_completable (λ a. (then_completable _ _ (sees_completable (kind.Sign sign.ParenClose)) (λ a. (done_completable _)))))))))))))))))) _ c.in_err-_opening.ensures.reads)

pub returns-in_err-ty-clause-reads : goal.returns-in_err-ty-clause-reads
returns-in_err-ty-clause-reads c =
    let p = err_from_is_err_and c.from_residual-in_err-ty.result c.from_residual-in_err-ty.ensures.1 in
    let l0 = leads_self IsWithOf nothing c.args.tokens.now in
    let l1 = past _ _ _ _ _ _ (never _ _) _ _ _ _ l0 c.in_ok-_opening.ensures.reads in
    rw (p.1, p.2) (refused_first _ _ _ _ _ _ (never _ _) _ _ _ l1 (λ a. (then_completable _ _ (sees_completable (kind.Sign sign.Comma)) (λ a. (then_completable _ _ name_completable (λ a. (then_completable _ _ (sees_completable (kind.Sign sign.Comma)) (λ a. (then_completable _ _ name_completable (λ a. (then_completable _ _ (sees_completable (kind.Sign sign.Comma)) (λ a. (then_completable _ _ name_completable (λ a. (then_completable _ _ (sees_completable (kind.Sign sign.ParenClose)) (λ a. (done_completable _)))))))))))))))) _ c.in_err-ty.ensures.reads)

pub returns-in_err-_before_comb-clause-reads : goal.returns-in_err-_before_comb-clause-reads
returns-in_err-_before_comb-clause-reads c =
    let p = err_from_is_err_and c.from_residual-in_err-_before_comb.result c.from_residual-in_err-_before_comb.ensures.1 in
    let l0 = leads_self IsWithOf nothing c.args.tokens.now in
    let l1 = past _ _ _ _ _ _ (never _ _) _ _ _ _ l0 c.in_ok-_opening.ensures.reads in
    let l2 = past _ _ _ _ _ _ (never _ _) _ _ _ _ l1 c.in_ok-ty.ensures.reads in
    rw (p.1, p.2) (refused_first _ _ _ _ _ _ (never _ _) _ _ _ l2 (λ a. (then_completable _ _ name_completable (λ a. (then_completable _ _ (sees_completable (kind.Sign sign.Comma)) (λ a. (then_completable _ _ name_completable (λ a. (then_completable _ _ (sees_completable (kind.Sign sign.Comma)) (λ a. (then_completable _ _ name_completable (λ a. (then_completable _ _ (sees_completable (kind.Sign sign.ParenClose)) (λ a. (done_completable _)))))))))))))) _ c.in_err-_before_comb.ensures.reads)

pub returns-in_err-comb-clause-reads : goal.returns-in_err-comb-clause-reads
returns-in_err-comb-clause-reads c =
    let p = err_from_is_err_and c.from_residual-in_err-comb.result c.from_residual-in_err-comb.ensures.1 in
    let l0 = leads_self IsWithOf nothing c.args.tokens.now in
    let l1 = past _ _ _ _ _ _ (never _ _) _ _ _ _ l0 c.in_ok-_opening.ensures.reads in
    let l2 = past _ _ _ _ _ _ (never _ _) _ _ _ _ l1 c.in_ok-ty.ensures.reads in
    let l3 = past _ _ _ _ _ _ (never _ _) _ _ _ _ l2 c.in_ok-_before_comb.ensures.reads in
    rw (p.1, p.2) (refused_first _ _ _ _ _ _ (never _ _) _ _ _ l3 (λ a. (then_completable _ _ (sees_completable (kind.Sign sign.Comma)) (λ a. (then_completable _ _ name_completable (λ a. (then_completable _ _ (sees_completable (kind.Sign sign.Comma)) (λ a. (then_completable _ _ name_completable (λ a. (then_completable _ _ (sees_completable (kind.Sign sign.ParenClose)) (λ a. (done_completable _)))))))))))) _ c.in_err-comb.ensures.reads)

pub returns-in_err-_before_single-clause-reads : goal.returns-in_err-_before_single-clause-reads
returns-in_err-_before_single-clause-reads c =
    let p = err_from_is_err_and c.from_residual-in_err-_before_single.result c.from_residual-in_err-_before_single.ensures.1 in
    let l0 = leads_self IsWithOf nothing c.args.tokens.now in
    let l1 = past _ _ _ _ _ _ (never _ _) _ _ _ _ l0 c.in_ok-_opening.ensures.reads in
    let l2 = past _ _ _ _ _ _ (never _ _) _ _ _ _ l1 c.in_ok-ty.ensures.reads in
    let l3 = past _ _ _ _ _ _ (never _ _) _ _ _ _ l2 c.in_ok-_before_comb.ensures.reads in
    let l4 = past _ _ _ _ _ _ (never _ _) _ _ _ _ l3 c.in_ok-comb.ensures.reads in
    rw (p.1, p.2) (refused_first _ _ _ _ _ _ (never _ _) _ _ _ l4 (λ a. (then_completable _ _ name_completable (λ a. (then_completable _ _ (sees_completable (kind.Sign sign.Comma)) (λ a. (then_completable _ _ name_completable (λ a. (then_completable _ _ (sees_completable (kind.Sign sign.ParenClose)) (λ a. (done_completable _)))))))))) _ c.in_err-_before_single.ensures.reads)

pub returns-in_err-single-clause-reads : goal.returns-in_err-single-clause-reads
returns-in_err-single-clause-reads c =
    let p = err_from_is_err_and c.from_residual-in_err-single.result c.from_residual-in_err-single.ensures.1 in
    let l0 = leads_self IsWithOf nothing c.args.tokens.now in
    let l1 = past _ _ _ _ _ _ (never _ _) _ _ _ _ l0 c.in_ok-_opening.ensures.reads in
    let l2 = past _ _ _ _ _ _ (never _ _) _ _ _ _ l1 c.in_ok-ty.ensures.reads in
    let l3 = past _ _ _ _ _ _ (never _ _) _ _ _ _ l2 c.in_ok-_before_comb.ensures.reads in
    let l4 = past _ _ _ _ _ _ (never _ _) _ _ _ _ l3 c.in_ok-comb.ensures.reads in
    let l5 = past _ _ _ _ _ _ (never _ _) _ _ _ _ l4 c.in_ok-_before_single.ensures.reads in
    rw (p.1, p.2) (refused_first _ _ _ _ _ _ (never _ _) _ _ _ l5 (λ a. (then_completable _ _ (sees_completable (kind.Sign sign.Comma)) (λ a. (then_completable _ _ name_completable (λ a. (then_completable _ _ (sees_completable (kind.Sign sign.ParenClose)) (λ a. (done_completable _)))))))) _ c.in_err-single.ensures.reads)

pub returns-in_err-_before_null-clause-reads : goal.returns-in_err-_before_null-clause-reads
returns-in_err-_before_null-clause-reads c =
    let p = err_from_is_err_and c.from_residual-in_err-_before_null.result c.from_residual-in_err-_before_null.ensures.1 in
    let l0 = leads_self IsWithOf nothing c.args.tokens.now in
    let l1 = past _ _ _ _ _ _ (never _ _) _ _ _ _ l0 c.in_ok-_opening.ensures.reads in
    let l2 = past _ _ _ _ _ _ (never _ _) _ _ _ _ l1 c.in_ok-ty.ensures.reads in
    let l3 = past _ _ _ _ _ _ (never _ _) _ _ _ _ l2 c.in_ok-_before_comb.ensures.reads in
    let l4 = past _ _ _ _ _ _ (never _ _) _ _ _ _ l3 c.in_ok-comb.ensures.reads in
    let l5 = past _ _ _ _ _ _ (never _ _) _ _ _ _ l4 c.in_ok-_before_single.ensures.reads in
    let l6 = past _ _ _ _ _ _ (never _ _) _ _ _ _ l5 c.in_ok-single.ensures.reads in
    rw (p.1, p.2) (refused_first _ _ _ _ _ _ (never _ _) _ _ _ l6 (λ a. (then_completable _ _ name_completable (λ a. (then_completable _ _ (sees_completable (kind.Sign sign.ParenClose)) (λ a. (done_completable _)))))) _ c.in_err-_before_null.ensures.reads)

pub returns-in_err-null-clause-reads : goal.returns-in_err-null-clause-reads
returns-in_err-null-clause-reads c =
    let p = err_from_is_err_and c.from_residual-in_err-null.result c.from_residual-in_err-null.ensures.1 in
    let l0 = leads_self IsWithOf nothing c.args.tokens.now in
    let l1 = past _ _ _ _ _ _ (never _ _) _ _ _ _ l0 c.in_ok-_opening.ensures.reads in
    let l2 = past _ _ _ _ _ _ (never _ _) _ _ _ _ l1 c.in_ok-ty.ensures.reads in
    let l3 = past _ _ _ _ _ _ (never _ _) _ _ _ _ l2 c.in_ok-_before_comb.ensures.reads in
    let l4 = past _ _ _ _ _ _ (never _ _) _ _ _ _ l3 c.in_ok-comb.ensures.reads in
    let l5 = past _ _ _ _ _ _ (never _ _) _ _ _ _ l4 c.in_ok-_before_single.ensures.reads in
    let l6 = past _ _ _ _ _ _ (never _ _) _ _ _ _ l5 c.in_ok-single.ensures.reads in
    let l7 = past _ _ _ _ _ _ (never _ _) _ _ _ _ l6 c.in_ok-_before_null.ensures.reads in
    rw (p.1, p.2) (refused_first _ _ _ _ _ _ (never _ _) _ _ _ l7 (λ a. (then_completable _ _ (sees_completable (kind.Sign sign.ParenClose)) (λ a. (done_completable _)))) _ c.in_err-null.ensures.reads)

pub returns-in_err-_closing-clause-reads : goal.returns-in_err-_closing-clause-reads
returns-in_err-_closing-clause-reads c =
    let p = err_from_is_err_and c.from_residual-in_err-_closing.result c.from_residual-in_err-_closing.ensures.1 in
    let l0 = leads_self IsWithOf nothing c.args.tokens.now in
    let l1 = past _ _ _ _ _ _ (never _ _) _ _ _ _ l0 c.in_ok-_opening.ensures.reads in
    let l2 = past _ _ _ _ _ _ (never _ _) _ _ _ _ l1 c.in_ok-ty.ensures.reads in
    let l3 = past _ _ _ _ _ _ (never _ _) _ _ _ _ l2 c.in_ok-_before_comb.ensures.reads in
    let l4 = past _ _ _ _ _ _ (never _ _) _ _ _ _ l3 c.in_ok-comb.ensures.reads in
    let l5 = past _ _ _ _ _ _ (never _ _) _ _ _ _ l4 c.in_ok-_before_single.ensures.reads in
    let l6 = past _ _ _ _ _ _ (never _ _) _ _ _ _ l5 c.in_ok-single.ensures.reads in
    let l7 = past _ _ _ _ _ _ (never _ _) _ _ _ _ l6 c.in_ok-_before_null.ensures.reads in
    let l8 = past _ _ _ _ _ _ (never _ _) _ _ _ _ l7 c.in_ok-null.ensures.reads in
    rw (p.1, p.2) (refused_first _ _ _ _ _ _ (never _ _) _ _ _ l8 (λ a. (done_completable _)) _ c.in_err-_closing.ensures.reads)

pub returns-clause-reads : goal.returns-clause-reads
returns-clause-reads c =
    let l0 = leads_self IsWithOf nothing c.args.tokens.now in
    let l1 = past _ _ _ _ _ _ (never _ _) _ _ _ _ l0 c.in_ok-_opening.ensures.reads in
    let l2 = past _ _ _ _ _ _ (never _ _) _ _ _ _ l1 c.in_ok-ty.ensures.reads in
    let l3 = past _ _ _ _ _ _ (never _ _) _ _ _ _ l2 c.in_ok-_before_comb.ensures.reads in
    let l4 = past _ _ _ _ _ _ (never _ _) _ _ _ _ l3 c.in_ok-comb.ensures.reads in
    let l5 = past _ _ _ _ _ _ (never _ _) _ _ _ _ l4 c.in_ok-_before_single.ensures.reads in
    let l6 = past _ _ _ _ _ _ (never _ _) _ _ _ _ l5 c.in_ok-single.ensures.reads in
    let l7 = past _ _ _ _ _ _ (never _ _) _ _ _ _ l6 c.in_ok-_before_null.ensures.reads in
    let l8 = past _ _ _ _ _ _ (never _ _) _ _ _ _ l7 c.in_ok-null.ensures.reads in
    let l9 = past _ _ _ _ _ _ (never _ _) _ _ _ _ l8 c.in_ok-_closing.ensures.reads in
    ends _ _ _ _ _ _ l9
