use Rattle.std.proofs.lemmas.Result.{err_from_is_err_and}
use Rattle.lido_lexer.specs.declared.sign.Sign.TheVariants as sign
use Rattle.lido_lexer.specs.declared.token.TokenKind.TheVariants as kind
use Rattle.lido_lexer.proofs.Reading.{gains_none, gains_more}
use Rattle.lido_computations.specs.Expressions.{continues}
use Rattle.lido_computations.specs.Computations.{continues_after, continues_computation}
use Rattle.lido_computations.specs.Messages.{IsConditional}
use Rattle.lido_computations.proofs.PhrasesLemmas.{past, ends, never, refused_first, then_completable, done_completable, sees_completable, done_stops, token_stops, leads_self}
use Rattle.lido_computations.proofs.PlacesLemmas.{optional_completable}
use Rattle.lido_computations.proofs.ExpressionsLemmas.{any_expression}
use Rattle.lido_computations.proofs.ComputationsLemmas.{option_continues}
use Rattle.lido_computations.proofs.FunctionsLemmas.{keeps_none}
use Rattle.lido_computations.proofs.MessagesLemmas.{message_completable, comma_no_value}
use Rattle.lido_computations.proofs.messages.conditional.Goals as goal

pub returns-in_err-_opening-clause-reads : goal.returns-in_err-_opening-clause-reads
returns-in_err-_opening-clause-reads c =
    let p = err_from_is_err_and c.from_residual.result c.from_residual.ensures.1 in rw (p.1, p.2) (λ texts g d.
    let l0 = leads_self (IsConditional c.args.words texts c.args.number c.args.at) continues_computation c.args.tokens.now in
    refused_first _ _ _ _ _ _ (never _ _) _ _ _ l0 (λ a. (then_completable _ _ (any_expression texts _) (λ a. (then_completable _ _ (sees_completable (kind.Sign sign.Comma)) (λ a. (then_completable _ _ (sees_completable (kind.Word c.args.words.message)) (λ a. (then_completable _ _ (message_completable c.args.words texts _) (λ a. (then_completable _ _ (sees_completable (kind.Sign sign.ParenClose)) (λ a. (then_completable _ _ (optional_completable _ _) (λ a. (done_completable _)))))))))))))) _ c.in_err-_opening.ensures.reads)

pub returns-in_err-condition-clause-reads : goal.returns-in_err-condition-clause-reads
returns-in_err-condition-clause-reads c =
    let p = err_from_is_err_and c.from_residual-in_err-condition.result c.from_residual-in_err-condition.ensures.1 in rw (p.1, p.2) (λ texts g d.
    let l0 = leads_self (IsConditional c.args.words texts c.args.number c.args.at) continues_computation c.args.tokens.now in
    let l1 = past _ _ _ _ _ _ (never _ _) _ _ _ _ l0 c.in_ok-_opening.ensures.reads in
    refused_first _ _ _ _ _ _ (token_stops (kind.Sign sign.Comma) (continues 0) continues_computation _ comma_no_value) _ _ _ l1 (λ a. (then_completable _ _ (sees_completable (kind.Sign sign.Comma)) (λ a. (then_completable _ _ (sees_completable (kind.Word c.args.words.message)) (λ a. (then_completable _ _ (message_completable c.args.words texts _) (λ a. (then_completable _ _ (sees_completable (kind.Sign sign.ParenClose)) (λ a. (then_completable _ _ (optional_completable _ _) (λ a. (done_completable _)))))))))))) _ (c.in_err-condition.ensures.reads texts g d))

pub returns-in_err-_comma-clause-reads : goal.returns-in_err-_comma-clause-reads
returns-in_err-_comma-clause-reads c =
    let p = err_from_is_err_and c.from_residual-in_err-_comma.result c.from_residual-in_err-_comma.ensures.1 in rw (p.1, p.2) (λ texts g d.
    let l0 = leads_self (IsConditional c.args.words texts c.args.number c.args.at) continues_computation c.args.tokens.now in
    let l1 = past _ _ _ _ _ _ (never _ _) _ _ _ _ l0 c.in_ok-_opening.ensures.reads in
    let l2 = past _ _ _ _ _ _ (token_stops (kind.Sign sign.Comma) (continues 0) continues_computation _ comma_no_value) _ _ _ _ l1 (c.in_ok-condition.ensures.reads texts g d) in
    refused_first _ _ _ _ _ _ (never _ _) _ _ _ l2 (λ a. (then_completable _ _ (sees_completable (kind.Word c.args.words.message)) (λ a. (then_completable _ _ (message_completable c.args.words texts _) (λ a. (then_completable _ _ (sees_completable (kind.Sign sign.ParenClose)) (λ a. (then_completable _ _ (optional_completable _ _) (λ a. (done_completable _)))))))))) _ c.in_err-_comma.ensures.reads)

pub returns-in_err-_word-clause-reads : goal.returns-in_err-_word-clause-reads
returns-in_err-_word-clause-reads c =
    let p = err_from_is_err_and c.from_residual-in_err-_word.result c.from_residual-in_err-_word.ensures.1 in rw (p.1, p.2) (λ texts g d.
    let l0 = leads_self (IsConditional c.args.words texts c.args.number c.args.at) continues_computation c.args.tokens.now in
    let l1 = past _ _ _ _ _ _ (never _ _) _ _ _ _ l0 c.in_ok-_opening.ensures.reads in
    let l2 = past _ _ _ _ _ _ (token_stops (kind.Sign sign.Comma) (continues 0) continues_computation _ comma_no_value) _ _ _ _ l1 (c.in_ok-condition.ensures.reads texts g d) in
    let l3 = past _ _ _ _ _ _ (never _ _) _ _ _ _ l2 c.in_ok-_comma.ensures.reads in
    refused_first _ _ _ _ _ _ (never _ _) _ _ _ l3 (λ a. (then_completable _ _ (message_completable c.args.words texts _) (λ a. (then_completable _ _ (sees_completable (kind.Sign sign.ParenClose)) (λ a. (then_completable _ _ (optional_completable _ _) (λ a. (done_completable _)))))))) _ c.in_err-_word.ensures.reads)

pub returns-in_err-severity-clause-reads : goal.returns-in_err-severity-clause-reads
returns-in_err-severity-clause-reads c =
    let p = err_from_is_err_and c.from_residual-in_err-severity.result c.from_residual-in_err-severity.ensures.1 in rw (p.1, p.2) (λ texts g d.
    let l0 = leads_self (IsConditional c.args.words texts c.args.number c.args.at) continues_computation c.args.tokens.now in
    let l1 = past _ _ _ _ _ _ (never _ _) _ _ _ _ l0 c.in_ok-_opening.ensures.reads in
    let l2 = past _ _ _ _ _ _ (token_stops (kind.Sign sign.Comma) (continues 0) continues_computation _ comma_no_value) _ _ _ _ l1 (c.in_ok-condition.ensures.reads texts (gains_more c.message_of.ensures.kept g) d) in
    let l3 = past _ _ _ _ _ _ (never _ _) _ _ _ _ l2 c.in_ok-_comma.ensures.reads in
    let l4 = past _ _ _ _ _ _ (never _ _) _ _ _ _ l3 c.in_ok-_word.ensures.reads in
    refused_first _ _ _ _ _ _ (never _ _) _ _ _ l4 (λ a. (then_completable _ _ (sees_completable (kind.Sign sign.ParenClose)) (λ a. (then_completable _ _ (optional_completable _ _) (λ a. (done_completable _)))))) _ (c.in_err-severity.ensures.reads texts g d))

pub returns-in_err-_closing-clause-reads : goal.returns-in_err-_closing-clause-reads
returns-in_err-_closing-clause-reads c =
    let p = err_from_is_err_and c.from_residual-in_err-_closing.result c.from_residual-in_err-_closing.ensures.1 in rw (p.1, p.2) (λ texts g d.
    let l0 = leads_self (IsConditional c.args.words texts c.args.number c.args.at) continues_computation c.args.tokens.now in
    let l1 = past _ _ _ _ _ _ (never _ _) _ _ _ _ l0 c.in_ok-_opening.ensures.reads in
    let l2 = past _ _ _ _ _ _ (token_stops (kind.Sign sign.Comma) (continues 0) continues_computation _ comma_no_value) _ _ _ _ l1 (c.in_ok-condition.ensures.reads texts (gains_more c.message_of.ensures.kept g) d) in
    let l3 = past _ _ _ _ _ _ (never _ _) _ _ _ _ l2 c.in_ok-_comma.ensures.reads in
    let l4 = past _ _ _ _ _ _ (never _ _) _ _ _ _ l3 c.in_ok-_word.ensures.reads in
    let l5 = past _ _ _ _ _ _ (never _ _) _ _ _ _ l4 (c.in_ok-severity.ensures.reads texts g d) in
    refused_first _ _ _ _ _ _ (never _ _) _ _ _ l5 (λ a. (then_completable _ _ (optional_completable _ _) (λ a. (done_completable _)))) _ c.in_err-_closing.ensures.reads)

pub returns-in_err-after-clause-reads : goal.returns-in_err-after-clause-reads
returns-in_err-after-clause-reads c =
    let p = err_from_is_err_and c.from_residual-in_err-after.result c.from_residual-in_err-after.ensures.1 in rw (p.1, p.2) (λ texts g d.
    let l0 = leads_self (IsConditional c.args.words texts c.args.number c.args.at) continues_computation c.args.tokens.now in
    let l1 = past _ _ _ _ _ _ (never _ _) _ _ _ _ l0 c.in_ok-_opening.ensures.reads in
    let l2 = past _ _ _ _ _ _ (token_stops (kind.Sign sign.Comma) (continues 0) continues_computation _ comma_no_value) _ _ _ _ l1 (c.in_ok-condition.ensures.reads texts (gains_more c.message_of.ensures.kept g) d) in
    let l3 = past _ _ _ _ _ _ (never _ _) _ _ _ _ l2 c.in_ok-_comma.ensures.reads in
    let l4 = past _ _ _ _ _ _ (never _ _) _ _ _ _ l3 c.in_ok-_word.ensures.reads in
    let l5 = past _ _ _ _ _ _ (never _ _) _ _ _ _ l4 (c.in_ok-severity.ensures.reads texts g d) in
    let l6 = past _ _ _ _ _ _ (never _ _) _ _ _ _ l5 c.in_ok-_closing.ensures.reads in
    refused_first _ _ _ _ _ _ (done_stops continues_after continues_computation _ option_continues) _ _ _ l6 (λ a. (done_completable _)) _ c.in_err-after.ensures.reads)

pub returns-clause-reads : goal.returns-clause-reads
returns-clause-reads c =
    rw c.from_vec.ensures (λ texts g d.
    let l0 = leads_self (IsConditional c.args.words texts c.args.number c.args.at) continues_computation c.args.tokens.now in
    let l1 = past _ _ _ _ _ _ (never _ _) _ _ _ _ l0 c.in_ok-_opening.ensures.reads in
    let l2 = past _ _ _ _ _ _ (token_stops (kind.Sign sign.Comma) (continues 0) continues_computation _ comma_no_value) _ _ _ _ l1 (c.in_ok-condition.ensures.reads texts (gains_more c.message_of.ensures.kept g) d) in
    let l3 = past _ _ _ _ _ _ (never _ _) _ _ _ _ l2 c.in_ok-_comma.ensures.reads in
    let l4 = past _ _ _ _ _ _ (never _ _) _ _ _ _ l3 c.in_ok-_word.ensures.reads in
    let l5 = past _ _ _ _ _ _ (never _ _) _ _ _ _ l4 (c.in_ok-severity.ensures.reads texts g d) in
    let l6 = past _ _ _ _ _ _ (never _ _) _ _ _ _ l5 c.in_ok-_closing.ensures.reads in
    let l7 = past _ _ _ _ _ _ (done_stops continues_after continues_computation _ option_continues) _ _ _ _ l6 c.in_ok-after.ensures.reads in
    rw c.in_ok-boxed.ensures (ends _ _ _ _ _ _ l7))

pub returns-in_err-_opening-clause-kept : goal.returns-in_err-_opening-clause-kept
returns-in_err-_opening-clause-kept c = gains_none _

pub returns-in_err-_opening-clause-same : goal.returns-in_err-_opening-clause-same
returns-in_err-_opening-clause-same c = keeps_none _
