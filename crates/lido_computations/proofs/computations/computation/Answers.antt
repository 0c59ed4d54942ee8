use Rattle.std.proofs.lemmas.Result.{err_from_is_err_and}
use Rattle.lido_lexer.specs.declared.sign.Sign.TheVariants as sign
use Rattle.lido_lexer.specs.declared.token.TokenKind.TheVariants as kind
use Rattle.lido_computations.proofs.PhrasesLemmas.{past, ends, never, refused_first, then_completable, done_completable, sees_completable, done_stops, token_stops}
use Rattle.lido_computations.proofs.PlacesLemmas.{optional_completable}
use Rattle.lido_lexer.proofs.Reading.{gains_none}
use Rattle.lido_computations.specs.Expressions.{continues}
use Rattle.lido_computations.proofs.ExpressionsLemmas.{any_expression}
use Rattle.lido_computations.specs.Computations.{continues_after, continues_computation}
use Rattle.lido_computations.proofs.ComputationsLemmas.{option_continues, value_stops, close_no_value, output_leads, assignment_leads}
use Rattle.lido_computations.proofs.FunctionsLemmas.{keeps_none}
use Rattle.lido_computations.proofs.computations.computation.Goals as goal

pub returns-in_err-_opening-clause-reads : goal.returns-in_err-_opening-clause-reads
returns-in_err-_opening-clause-reads c =
    let p = err_from_is_err_and c.from_residual.result c.from_residual.ensures.1 in rw (p.1, p.2) (λ texts g d.
    let l0 = output_leads texts c.args.number _ _ _ c.in-Some.ensures.seen in
    refused_first _ _ _ _ _ _ (never _ _) _ _ _ l0 (λ a. (then_completable _ _ (any_expression texts _) (λ a. (then_completable _ _ (sees_completable (kind.Sign sign.ParenClose)) (λ a. (then_completable _ _ (optional_completable _ _) (λ a. (done_completable _)))))))) _ c.in_err-_opening.ensures.reads)

pub returns-in_err-printed-clause-reads : goal.returns-in_err-printed-clause-reads
returns-in_err-printed-clause-reads c =
    let p = err_from_is_err_and c.from_residual-in_err-printed.result c.from_residual-in_err-printed.ensures.1 in rw (p.1, p.2) (λ texts g d.
    let l0 = output_leads texts c.args.number _ _ _ c.in-Some.ensures.seen in
    let l1 = past _ _ _ _ _ _ (never _ _) _ _ _ _ l0 c.in_ok-_opening.ensures.reads in
    refused_first _ _ _ _ _ _ (token_stops (kind.Sign sign.ParenClose) (continues 0) continues_computation _ close_no_value) _ _ _ l1 (λ a. (then_completable _ _ (sees_completable (kind.Sign sign.ParenClose)) (λ a. (then_completable _ _ (optional_completable _ _) (λ a. (done_completable _)))))) _ (c.in_err-printed.ensures.reads texts g d))

pub returns-in_err-_closing-clause-reads : goal.returns-in_err-_closing-clause-reads
returns-in_err-_closing-clause-reads c =
    let p = err_from_is_err_and c.from_residual-in_err-_closing.result c.from_residual-in_err-_closing.ensures.1 in rw (p.1, p.2) (λ texts g d.
    let l0 = output_leads texts c.args.number _ _ _ c.in-Some.ensures.seen in
    let l1 = past _ _ _ _ _ _ (never _ _) _ _ _ _ l0 c.in_ok-_opening.ensures.reads in
    let l2 = past _ _ _ _ _ _ (token_stops (kind.Sign sign.ParenClose) (continues 0) continues_computation _ close_no_value) _ _ _ _ l1 (c.in_ok-printed.ensures.reads texts g d) in
    refused_first _ _ _ _ _ _ (never _ _) _ _ _ l2 (λ a. (then_completable _ _ (optional_completable _ _) (λ a. (done_completable _)))) _ c.in_err-_closing.ensures.reads)

pub returns-in_err-ordered-clause-reads : goal.returns-in_err-ordered-clause-reads
returns-in_err-ordered-clause-reads c =
    let p = err_from_is_err_and c.from_residual-in_err-ordered.result c.from_residual-in_err-ordered.ensures.1 in rw (p.1, p.2) (λ texts g d.
    let l0 = output_leads texts c.args.number _ _ _ c.in-Some.ensures.seen in
    let l1 = past _ _ _ _ _ _ (never _ _) _ _ _ _ l0 c.in_ok-_opening.ensures.reads in
    let l2 = past _ _ _ _ _ _ (token_stops (kind.Sign sign.ParenClose) (continues 0) continues_computation _ close_no_value) _ _ _ _ l1 (c.in_ok-printed.ensures.reads texts g d) in
    let l3 = past _ _ _ _ _ _ (never _ _) _ _ _ _ l2 c.in_ok-_closing.ensures.reads in
    refused_first _ _ _ _ _ _ (done_stops continues_after continues_computation _ option_continues) _ _ _ l3 (λ a. (done_completable _)) _ c.in_err-ordered.ensures.reads)

pub returns-in-Some-clause-reads : goal.returns-in-Some-clause-reads
returns-in-Some-clause-reads c =
    rw c.from_vec.ensures (λ texts g d.
    let l0 = output_leads texts c.args.number _ _ _ c.in-Some.ensures.seen in
    let l1 = past _ _ _ _ _ _ (never _ _) _ _ _ _ l0 c.in_ok-_opening.ensures.reads in
    let l2 = past _ _ _ _ _ _ (token_stops (kind.Sign sign.ParenClose) (continues 0) continues_computation _ close_no_value) _ _ _ _ l1 (c.in_ok-printed.ensures.reads texts g d) in
    let l3 = past _ _ _ _ _ _ (never _ _) _ _ _ _ l2 c.in_ok-_closing.ensures.reads in
    let l4 = past _ _ _ _ _ _ (done_stops continues_after continues_computation _ option_continues) _ _ _ _ l3 c.in_ok-ordered.ensures.reads in
    ends _ _ _ _ _ _ l4)

pub returns-in_err-_opening-clause-kept : goal.returns-in_err-_opening-clause-kept
returns-in_err-_opening-clause-kept c =
    gains_none _

pub returns-in_err-found-clause-reads : goal.returns-in_err-found-clause-reads
returns-in_err-found-clause-reads c =
    let p = err_from_is_err_and c.from_residual-in_err-found.result c.from_residual-in_err-found.ensures.1 in rw (p.1, p.2) (λ texts g d.
    let l0 = assignment_leads texts c.args.number c.args.tokens.now c.in_default.ensures.seen in
    refused_first _ _ _ _ _ _ (never _ _) _ _ _ l0 (λ a. (then_completable _ _ (sees_completable (kind.Sign sign.Equal)) (λ a. (then_completable _ _ (any_expression texts _) (λ a. (then_completable _ _ (optional_completable _ _) (λ a. (done_completable _)))))))) _ c.in_err-found.ensures.reads)

pub returns-in_err-_equal-clause-reads : goal.returns-in_err-_equal-clause-reads
returns-in_err-_equal-clause-reads c =
    let p = err_from_is_err_and c.from_residual-in_err-_equal.result c.from_residual-in_err-_equal.ensures.1 in rw (p.1, p.2) (λ texts g d.
    let l0 = assignment_leads texts c.args.number c.args.tokens.now c.in_default.ensures.seen in
    let l1 = past _ _ _ _ _ _ (never _ _) _ _ _ _ l0 c.in_ok-found.ensures.reads in
    refused_first _ _ _ _ _ _ (never _ _) _ _ _ l1 (λ a. (then_completable _ _ (any_expression texts _) (λ a. (then_completable _ _ (optional_completable _ _) (λ a. (done_completable _)))))) _ c.in_err-_equal.ensures.reads)

pub returns-in_err-given-clause-reads : goal.returns-in_err-given-clause-reads
returns-in_err-given-clause-reads c =
    let p = err_from_is_err_and c.from_residual-in_err-given.result c.from_residual-in_err-given.ensures.1 in rw (p.1, p.2) (λ texts g d.
    let l0 = assignment_leads texts c.args.number c.args.tokens.now c.in_default.ensures.seen in
    let l1 = past _ _ _ _ _ _ (never _ _) _ _ _ _ l0 c.in_ok-found.ensures.reads in
    let l2 = past _ _ _ _ _ _ (never _ _) _ _ _ _ l1 c.in_ok-_equal.ensures.reads in
    refused_first _ _ _ _ _ _ (value_stops _) _ _ _ l2 (λ a. (then_completable _ _ (optional_completable _ _) (λ a. (done_completable _)))) _ (c.in_err-given.ensures.reads texts g d))

pub returns-in_err-after-clause-reads : goal.returns-in_err-after-clause-reads
returns-in_err-after-clause-reads c =
    let p = err_from_is_err_and c.from_residual-in_err-after.result c.from_residual-in_err-after.ensures.1 in rw (p.1, p.2) (λ texts g d.
    let l0 = assignment_leads texts c.args.number c.args.tokens.now c.in_default.ensures.seen in
    let l1 = past _ _ _ _ _ _ (never _ _) _ _ _ _ l0 c.in_ok-found.ensures.reads in
    let l2 = past _ _ _ _ _ _ (never _ _) _ _ _ _ l1 c.in_ok-_equal.ensures.reads in
    let l3 = past _ _ _ _ _ _ (value_stops _) _ _ _ _ l2 (c.in_ok-given.ensures.reads texts g d) in
    refused_first _ _ _ _ _ _ (done_stops continues_after continues_computation _ option_continues) _ _ _ l3 (λ a. (done_completable _)) _ c.in_err-after.ensures.reads)

pub returns-clause-reads : goal.returns-clause-reads
returns-clause-reads c =
    rw c.from_vec-2.ensures (λ texts g d.
    let l0 = assignment_leads texts c.args.number c.args.tokens.now c.in_default.ensures.seen in
    let l1 = past _ _ _ _ _ _ (never _ _) _ _ _ _ l0 c.in_ok-found.ensures.reads in
    let l2 = past _ _ _ _ _ _ (never _ _) _ _ _ _ l1 c.in_ok-_equal.ensures.reads in
    let l3 = past _ _ _ _ _ _ (value_stops _) _ _ _ _ l2 (c.in_ok-given.ensures.reads texts g d) in
    let l4 = past _ _ _ _ _ _ (done_stops continues_after continues_computation _ option_continues) _ _ _ _ l3 c.in_ok-after.ensures.reads in
    ends _ _ _ _ _ _ l4)

pub returns-in_err-found-clause-kept : goal.returns-in_err-found-clause-kept
returns-in_err-found-clause-kept c =
    gains_none _

pub returns-in_err-_equal-clause-kept : goal.returns-in_err-_equal-clause-kept
returns-in_err-_equal-clause-kept c =
    gains_none _

pub returns-in_err-_opening-clause-same : goal.returns-in_err-_opening-clause-same
returns-in_err-_opening-clause-same c = keeps_none _

pub returns-in_err-found-clause-same : goal.returns-in_err-found-clause-same
returns-in_err-found-clause-same c = keeps_none _

pub returns-in_err-_equal-clause-same : goal.returns-in_err-_equal-clause-same
returns-in_err-_equal-clause-same c = keeps_none _
