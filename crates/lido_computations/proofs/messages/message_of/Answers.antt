use Rattle.std.proofs.lemmas.Result.{err_from_is_err_and}
use Rattle.lido_base.specs.Reading.{nothing}
use Rattle.lido_lexer.specs.declared.sign.Sign.TheVariants as sign
use Rattle.lido_lexer.specs.declared.token.TokenKind.TheVariants as kind
use Rattle.lido_lexer.proofs.Reading.{gains_none}
use Rattle.lido_computations.specs.Messages.{IsMessageOf}
use Rattle.lido_computations.proofs.PhrasesLemmas.{past, ends, never, refused_first, then_completable, done_completable, sees_completable, leads_self}
use Rattle.lido_computations.proofs.ExpressionsLemmas.{any_expression}
use Rattle.lido_computations.proofs.FunctionsLemmas.{keeps_none}
use Rattle.lido_computations.proofs.MessagesLemmas.{severity_completable, placing_completable, placing_stops}
use Rattle.lido_computations.proofs.messages.message_of.Goals as goal

pub returns-in_err-_opening-clause-reads : goal.returns-in_err-_opening-clause-reads
returns-in_err-_opening-clause-reads c =
    let p = err_from_is_err_and c.from_residual.result c.from_residual.ensures.1 in rw (p.1, p.2) (λ texts g d.
    let l0 = leads_self (IsMessageOf c.args.words texts c.args.counts) nothing c.args.tokens.now in
    refused_first _ _ _ _ _ _ (never _ _) _ _ _ l0 (λ a. (then_completable _ _ (severity_completable c.args.words) (λ a. (then_completable _ _ (sees_completable (kind.Sign sign.Comma)) (λ a. (then_completable _ _ (any_expression texts _) (λ a. (then_completable _ _ (placing_completable c.args.words) (λ a. (done_completable _)))))))))) _ c.in_err-_opening.ensures.reads)

pub returns-in_err-found-clause-reads : goal.returns-in_err-found-clause-reads
returns-in_err-found-clause-reads c =
    let p = err_from_is_err_and c.from_residual-in_err-found.result c.from_residual-in_err-found.ensures.1 in rw (p.1, p.2) (λ texts g d.
    let l0 = leads_self (IsMessageOf c.args.words texts c.args.counts) nothing c.args.tokens.now in
    let l1 = past _ _ _ _ _ _ (never _ _) _ _ _ _ l0 c.in_ok-_opening.ensures.reads in
    refused_first _ _ _ _ _ _ (never _ _) _ _ _ l1 (λ a. (then_completable _ _ (sees_completable (kind.Sign sign.Comma)) (λ a. (then_completable _ _ (any_expression texts _) (λ a. (then_completable _ _ (placing_completable c.args.words) (λ a. (done_completable _)))))))) _ c.in_err-found.ensures.reads)

pub returns-in_err-_comma-clause-reads : goal.returns-in_err-_comma-clause-reads
returns-in_err-_comma-clause-reads c =
    let p = err_from_is_err_and c.from_residual-in_err-_comma.result c.from_residual-in_err-_comma.ensures.1 in rw (p.1, p.2) (λ texts g d.
    let l0 = leads_self (IsMessageOf c.args.words texts c.args.counts) nothing c.args.tokens.now in
    let l1 = past _ _ _ _ _ _ (never _ _) _ _ _ _ l0 c.in_ok-_opening.ensures.reads in
    let l2 = past _ _ _ _ _ _ (never _ _) _ _ _ _ l1 c.in_ok-found.ensures.reads in
    refused_first _ _ _ _ _ _ (never _ _) _ _ _ l2 (λ a. (then_completable _ _ (any_expression texts _) (λ a. (then_completable _ _ (placing_completable c.args.words) (λ a. (done_completable _)))))) _ c.in_err-_comma.ensures.reads)

pub returns-in_err-text-clause-reads : goal.returns-in_err-text-clause-reads
returns-in_err-text-clause-reads c =
    let p = err_from_is_err_and c.from_residual-in_err-text.result c.from_residual-in_err-text.ensures.1 in rw (p.1, p.2) (λ texts g d.
    let l0 = leads_self (IsMessageOf c.args.words texts c.args.counts) nothing c.args.tokens.now in
    let l1 = past _ _ _ _ _ _ (never _ _) _ _ _ _ l0 c.in_ok-_opening.ensures.reads in
    let l2 = past _ _ _ _ _ _ (never _ _) _ _ _ _ l1 c.in_ok-found.ensures.reads in
    let l3 = past _ _ _ _ _ _ (never _ _) _ _ _ _ l2 c.in_ok-_comma.ensures.reads in
    refused_first _ _ _ _ _ _ (placing_stops c.args.words _ nothing) _ _ _ l3 (λ a. (then_completable _ _ (placing_completable c.args.words) (λ a. (done_completable _)))) _ (c.in_err-text.ensures.reads texts g d))

pub returns-in_err-_closing-clause-reads : goal.returns-in_err-_closing-clause-reads
returns-in_err-_closing-clause-reads c =
    let p = err_from_is_err_and c.from_residual-in_err-_closing.result c.from_residual-in_err-_closing.ensures.1 in rw (p.1, p.2) (λ texts g d.
    let l0 = leads_self (IsMessageOf c.args.words texts c.args.counts) nothing c.args.tokens.now in
    let l1 = past _ _ _ _ _ _ (never _ _) _ _ _ _ l0 c.in_ok-_opening.ensures.reads in
    let l2 = past _ _ _ _ _ _ (never _ _) _ _ _ _ l1 c.in_ok-found.ensures.reads in
    let l3 = past _ _ _ _ _ _ (never _ _) _ _ _ _ l2 c.in_ok-_comma.ensures.reads in
    let l4 = past _ _ _ _ _ _ (placing_stops c.args.words _ nothing) _ _ _ _ l3 (c.in_ok-text.ensures.reads texts g d) in
    refused_first _ _ _ _ _ _ (never _ _) _ _ _ l4 (λ a. (done_completable _)) _ c.in_err-_closing.ensures.reads)

pub returns-clause-reads : goal.returns-clause-reads
returns-clause-reads c =
    (λ texts g d.
    let l0 = leads_self (IsMessageOf c.args.words texts c.args.counts) nothing c.args.tokens.now in
    let l1 = past _ _ _ _ _ _ (never _ _) _ _ _ _ l0 c.in_ok-_opening.ensures.reads in
    let l2 = past _ _ _ _ _ _ (never _ _) _ _ _ _ l1 c.in_ok-found.ensures.reads in
    let l3 = past _ _ _ _ _ _ (never _ _) _ _ _ _ l2 c.in_ok-_comma.ensures.reads in
    let l4 = past _ _ _ _ _ _ (placing_stops c.args.words _ nothing) _ _ _ _ l3 (c.in_ok-text.ensures.reads texts g d) in
    let l5 = past _ _ _ _ _ _ (never _ _) _ _ _ _ l4 c.in_ok-_closing.ensures.reads in
    ends _ _ _ _ _ _ l5)

pub returns-in_err-_opening-clause-kept : goal.returns-in_err-_opening-clause-kept
returns-in_err-_opening-clause-kept c = gains_none _

pub returns-in_err-_opening-clause-same : goal.returns-in_err-_opening-clause-same
returns-in_err-_opening-clause-same c = keeps_none _

pub returns-in_err-found-clause-kept : goal.returns-in_err-found-clause-kept
returns-in_err-found-clause-kept c = gains_none _

pub returns-in_err-found-clause-same : goal.returns-in_err-found-clause-same
returns-in_err-found-clause-same c = keeps_none _

pub returns-in_err-_comma-clause-kept : goal.returns-in_err-_comma-clause-kept
returns-in_err-_comma-clause-kept c = gains_none _

pub returns-in_err-_comma-clause-same : goal.returns-in_err-_comma-clause-same
returns-in_err-_comma-clause-same c = keeps_none _
