use Rattle.std.specs.Prelude.{◌≡◌, [], ◌∷◌, ◌++◌, refl}
use Rattle.std.proofs.Common.{arith, sym, subst, ◌∙◌}
use Rattle.std.proofs.lemmas.Grind.{common_steps}
use Rattle.std.proofs.lemmas.Result.{err_from_is_err_and}
use Rattle.lido_base.specs.Reading.{nothing}
use Rattle.lido_base.proofs.ReadingLemmas.{leads_on}
use Rattle.lido_lexer.specs.declared.sign.Sign.TheVariants as sign
use Rattle.lido_lexer.specs.declared.token.TokenKind.TheVariants as kind
use Rattle.lido_computations.specs.Places.{is_option}
use Rattle.lido_computations.proofs.PhrasesLemmas.{past, ends, never, refused_first, leads_self, then_completable, done_completable, sees_completable, done_stops, token_stops, same_wider, reads_by, widens, lead_at, lead_there, refuse_at, find_at}
use Rattle.lido_base.specs.Reading.{Finds}
use Rattle.std.specs.Prelude.{◌-◌}
use Rattle.std.specs.Prelude.{◌+◌, IsTrue, codes}
use Rattle.lido_lexer.proofs.Reading.{gains_more, gains_none}
use Rattle.lido_computations.specs.Expressions.{IsExpr, continues}
use Rattle.lido_computations.specs.Parts.{IsChoice, IsOrder, IsParenthesized, continues_list, follows}
use Rattle.lido_computations.proofs.PhrasesLemmas.{no_memory, refused_by}
use Rattle.lido_computations.proofs.ExpressionsLemmas.{looser_fails, function_finds, text_gained, any_expression, further_operands, level_reads, level_refusals, option_wider, including_word, constituents_word, order_word, level_leads, operands_end, operator_leads, operand_stops, operator_exhausted, prefix_leads, primary_leads, some_completable, prefix_exhausted, close_no_operator, comma_apart, close_no_list, some_leads, some_fails, further_leads, further_fails, further_ends, without_finds, arguments_lead, called_leads, called_exhausted, placed_leads, named_completable, null_leads, parenthesized_leads, choice_leads, order_leads, including_leads, constituents_leads, context_leads, word_leads, constant_finds, constant_refuses, other_refuses, end_refuses, counted_leads, counted_exhausted}
use Rattle.lido_computations.proofs.FunctionsLemmas.{keeps_none, keeps_more, prefix_among, infix_among, if_among, order_among, null_among}
use Rattle.lido_computations.proofs.expressions.+expression.Goals as goal

pub parenthesized-returns-in_err-tree-clause-reads : goal.parenthesized-returns-in_err-tree-clause-reads
parenthesized-returns-in_err-tree-clause-reads t c =
    let p = err_from_is_err_and c.from_residual.result c.from_residual.ensures.1 in rw (p.1, p.2) (λ texts g d.
    let l0 = leads_self (IsParenthesized texts c.args.counts) follows c.args.tokens.now in
    refused_first _ _ _ _ _ _ (token_stops (kind.Sign sign.ParenClose) (continues 0) follows _ (close_no_operator texts)) _ _ _ l0 (λ a. (then_completable _ _ (sees_completable (kind.Sign sign.ParenClose)) (λ a. (done_completable _)))) _ (c.in_err-tree.ensures.reads texts g d))

pub parenthesized-returns-in_err-_closing-clause-reads : goal.parenthesized-returns-in_err-_closing-clause-reads
parenthesized-returns-in_err-_closing-clause-reads t c =
    let p = err_from_is_err_and c.from_residual-in_err-_closing.result c.from_residual-in_err-_closing.ensures.1 in rw (p.1, p.2) (λ texts g d.
    let l0 = leads_self (IsParenthesized texts c.args.counts) follows c.args.tokens.now in
    let l1 = past _ _ _ _ _ _ (token_stops (kind.Sign sign.ParenClose) (continues 0) follows _ (close_no_operator texts)) _ _ _ _ l0 (c.in_ok-tree.ensures.reads texts g d) in
    refused_first _ _ _ _ _ _ (never _ _) _ _ _ l1 (λ a. (done_completable _)) _ c.in_err-_closing.ensures.reads)

pub parenthesized-returns-clause-reads : goal.parenthesized-returns-clause-reads
parenthesized-returns-clause-reads t c =
    (λ texts g d.
    let l0 = leads_self (IsParenthesized texts c.args.counts) follows c.args.tokens.now in
    let l1 = past _ _ _ _ _ _ (token_stops (kind.Sign sign.ParenClose) (continues 0) follows _ (close_no_operator texts)) _ _ _ _ l0 (c.in_ok-tree.ensures.reads texts g d) in
    let l2 = past _ _ _ _ _ _ (never _ _) _ _ _ _ l1 c.in_ok-_closing.ensures.reads in
    ends _ _ _ _ _ _ l2)

pub choice-returns-in_err-word-clause-reads : goal.choice-returns-in_err-word-clause-reads
choice-returns-in_err-word-clause-reads t c =
    let p = err_from_is_err_and c.from_residual.result c.from_residual.ensures.1 in rw (p.1, p.2) (λ texts g d. no_memory _ _ _ _ _ c.in_err-word.ensures.memory)

pub choice-returns-in_err-_opening-clause-reads : goal.choice-returns-in_err-_opening-clause-reads
choice-returns-in_err-_opening-clause-reads t c =
    let p = err_from_is_err_and c.from_residual-in_err-_opening.result c.from_residual-in_err-_opening.ensures.1 in rw (p.1, p.2) (λ texts g d.
    let l0 = leads_self (IsChoice texts c.args.at c.args.counts) follows c.args.tokens.now in
    let l1 = past _ _ _ _ _ _ (never _ _) _ _ _ _ l0 (function_finds texts d (codes "IF") c.args.at nothing _ c.in_ok-word.word c.in_ok-word.ensures.name.0 (text_gained _ _ g c.in_ok-word.ensures.name.1)) in
    refused_first _ _ _ _ _ _ (never _ _) _ _ _ l1 (λ a. (then_completable _ _ (any_expression texts _) (λ a. (then_completable _ _ (sees_completable (kind.Sign sign.Comma)) (λ a. (then_completable _ _ (any_expression texts _) (λ a. (then_completable _ _ (sees_completable (kind.Sign sign.Comma)) (λ a. (then_completable _ _ (any_expression texts _) (λ a. (then_completable _ _ (sees_completable (kind.Sign sign.ParenClose)) (λ a. (done_completable _)))))))))))))) _ c.in_err-_opening.ensures.reads)

pub choice-returns-in_err-first-clause-reads : goal.choice-returns-in_err-first-clause-reads
choice-returns-in_err-first-clause-reads t c =
    let p = err_from_is_err_and c.from_residual-in_err-first.result c.from_residual-in_err-first.ensures.1 in rw (p.1, p.2) (λ texts g d.
    let l0 = leads_self (IsChoice texts c.args.at c.args.counts) follows c.args.tokens.now in
    let l1 = past _ _ _ _ _ _ (never _ _) _ _ _ _ l0 (function_finds texts d (codes "IF") c.args.at nothing _ c.in_ok-word.word c.in_ok-word.ensures.name.0 (text_gained _ _ (gains_more c.in_err-first.ensures.kept g) c.in_ok-word.ensures.name.1)) in
    let l2 = past _ _ _ _ _ _ (never _ _) _ _ _ _ l1 c.in_ok-_opening.ensures.reads in
    refused_first _ _ _ _ _ _ (token_stops (kind.Sign sign.Comma) (continues 0) follows _ (comma_apart texts)) _ _ _ l2 (λ a. (then_completable _ _ (sees_completable (kind.Sign sign.Comma)) (λ a. (then_completable _ _ (any_expression texts _) (λ a. (then_completable _ _ (sees_completable (kind.Sign sign.Comma)) (λ a. (then_completable _ _ (any_expression texts _) (λ a. (then_completable _ _ (sees_completable (kind.Sign sign.ParenClose)) (λ a. (done_completable _)))))))))))) _ (c.in_err-first.ensures.reads texts g d))

pub choice-returns-in_err-first-clause-kept : goal.choice-returns-in_err-first-clause-kept
choice-returns-in_err-first-clause-kept t c =
    (gains_more c.in_ok-word.ensures.kept c.in_err-first.ensures.kept)

pub choice-returns-in_err-_before_second-clause-reads : goal.choice-returns-in_err-_before_second-clause-reads
choice-returns-in_err-_before_second-clause-reads t c =
    let p = err_from_is_err_and c.from_residual-in_err-_before_second.result c.from_residual-in_err-_before_second.ensures.1 in rw (p.1, p.2) (λ texts g d.
    let l0 = leads_self (IsChoice texts c.args.at c.args.counts) follows c.args.tokens.now in
    let l1 = past _ _ _ _ _ _ (never _ _) _ _ _ _ l0 (function_finds texts d (codes "IF") c.args.at nothing _ c.in_ok-word.word c.in_ok-word.ensures.name.0 (text_gained _ _ (gains_more c.in_ok-first.ensures.kept g) c.in_ok-word.ensures.name.1)) in
    let l2 = past _ _ _ _ _ _ (never _ _) _ _ _ _ l1 c.in_ok-_opening.ensures.reads in
    let l3 = past _ _ _ _ _ _ (token_stops (kind.Sign sign.Comma) (continues 0) follows _ (comma_apart texts)) _ _ _ _ l2 (c.in_ok-first.ensures.reads texts g d) in
    refused_first _ _ _ _ _ _ (never _ _) _ _ _ l3 (λ a. (then_completable _ _ (any_expression texts _) (λ a. (then_completable _ _ (sees_completable (kind.Sign sign.Comma)) (λ a. (then_completable _ _ (any_expression texts _) (λ a. (then_completable _ _ (sees_completable (kind.Sign sign.ParenClose)) (λ a. (done_completable _)))))))))) _ c.in_err-_before_second.ensures.reads)

pub choice-returns-in_err-_before_second-clause-kept : goal.choice-returns-in_err-_before_second-clause-kept
choice-returns-in_err-_before_second-clause-kept t c =
    (gains_more c.in_ok-word.ensures.kept c.in_ok-first.ensures.kept)

pub choice-returns-in_err-second-clause-reads : goal.choice-returns-in_err-second-clause-reads
choice-returns-in_err-second-clause-reads t c =
    let p = err_from_is_err_and c.from_residual-in_err-second.result c.from_residual-in_err-second.ensures.1 in rw (p.1, p.2) (λ texts g d.
    let l0 = leads_self (IsChoice texts c.args.at c.args.counts) follows c.args.tokens.now in
    let l1 = past _ _ _ _ _ _ (never _ _) _ _ _ _ l0 (function_finds texts d (codes "IF") c.args.at nothing _ c.in_ok-word.word c.in_ok-word.ensures.name.0 (text_gained _ _ (gains_more c.in_ok-first.ensures.kept (gains_more c.in_err-second.ensures.kept g)) c.in_ok-word.ensures.name.1)) in
    let l2 = past _ _ _ _ _ _ (never _ _) _ _ _ _ l1 c.in_ok-_opening.ensures.reads in
    let l3 = past _ _ _ _ _ _ (token_stops (kind.Sign sign.Comma) (continues 0) follows _ (comma_apart texts)) _ _ _ _ l2 (c.in_ok-first.ensures.reads texts (gains_more c.in_err-second.ensures.kept g) d) in
    let l4 = past _ _ _ _ _ _ (never _ _) _ _ _ _ l3 c.in_ok-_before_second.ensures.reads in
    refused_first _ _ _ _ _ _ (token_stops (kind.Sign sign.Comma) (continues 0) follows _ (comma_apart texts)) _ _ _ l4 (λ a. (then_completable _ _ (sees_completable (kind.Sign sign.Comma)) (λ a. (then_completable _ _ (any_expression texts _) (λ a. (then_completable _ _ (sees_completable (kind.Sign sign.ParenClose)) (λ a. (done_completable _)))))))) _ (c.in_err-second.ensures.reads texts g d))

pub choice-returns-in_err-second-clause-kept : goal.choice-returns-in_err-second-clause-kept
choice-returns-in_err-second-clause-kept t c =
    (gains_more c.in_ok-word.ensures.kept (gains_more c.in_ok-first.ensures.kept c.in_err-second.ensures.kept))

pub choice-returns-in_err-_before_third-clause-reads : goal.choice-returns-in_err-_before_third-clause-reads
choice-returns-in_err-_before_third-clause-reads t c =
    let p = err_from_is_err_and c.from_residual-in_err-_before_third.result c.from_residual-in_err-_before_third.ensures.1 in rw (p.1, p.2) (λ texts g d.
    let l0 = leads_self (IsChoice texts c.args.at c.args.counts) follows c.args.tokens.now in
    let l1 = past _ _ _ _ _ _ (never _ _) _ _ _ _ l0 (function_finds texts d (codes "IF") c.args.at nothing _ c.in_ok-word.word c.in_ok-word.ensures.name.0 (text_gained _ _ (gains_more c.in_ok-first.ensures.kept (gains_more c.in_ok-second.ensures.kept g)) c.in_ok-word.ensures.name.1)) in
    let l2 = past _ _ _ _ _ _ (never _ _) _ _ _ _ l1 c.in_ok-_opening.ensures.reads in
    let l3 = past _ _ _ _ _ _ (token_stops (kind.Sign sign.Comma) (continues 0) follows _ (comma_apart texts)) _ _ _ _ l2 (c.in_ok-first.ensures.reads texts (gains_more c.in_ok-second.ensures.kept g) d) in
    let l4 = past _ _ _ _ _ _ (never _ _) _ _ _ _ l3 c.in_ok-_before_second.ensures.reads in
    let l5 = past _ _ _ _ _ _ (token_stops (kind.Sign sign.Comma) (continues 0) follows _ (comma_apart texts)) _ _ _ _ l4 (c.in_ok-second.ensures.reads texts g d) in
    refused_first _ _ _ _ _ _ (never _ _) _ _ _ l5 (λ a. (then_completable _ _ (any_expression texts _) (λ a. (then_completable _ _ (sees_completable (kind.Sign sign.ParenClose)) (λ a. (done_completable _)))))) _ c.in_err-_before_third.ensures.reads)

pub choice-returns-in_err-_before_third-clause-kept : goal.choice-returns-in_err-_before_third-clause-kept
choice-returns-in_err-_before_third-clause-kept t c =
    (gains_more c.in_ok-word.ensures.kept (gains_more c.in_ok-first.ensures.kept c.in_ok-second.ensures.kept))

pub choice-returns-in_err-third-clause-reads : goal.choice-returns-in_err-third-clause-reads
choice-returns-in_err-third-clause-reads t c =
    let p = err_from_is_err_and c.from_residual-in_err-third.result c.from_residual-in_err-third.ensures.1 in rw (p.1, p.2) (λ texts g d.
    let l0 = leads_self (IsChoice texts c.args.at c.args.counts) follows c.args.tokens.now in
    let l1 = past _ _ _ _ _ _ (never _ _) _ _ _ _ l0 (function_finds texts d (codes "IF") c.args.at nothing _ c.in_ok-word.word c.in_ok-word.ensures.name.0 (text_gained _ _ (gains_more c.in_ok-first.ensures.kept (gains_more c.in_ok-second.ensures.kept (gains_more c.in_err-third.ensures.kept g))) c.in_ok-word.ensures.name.1)) in
    let l2 = past _ _ _ _ _ _ (never _ _) _ _ _ _ l1 c.in_ok-_opening.ensures.reads in
    let l3 = past _ _ _ _ _ _ (token_stops (kind.Sign sign.Comma) (continues 0) follows _ (comma_apart texts)) _ _ _ _ l2 (c.in_ok-first.ensures.reads texts (gains_more c.in_ok-second.ensures.kept (gains_more c.in_err-third.ensures.kept g)) d) in
    let l4 = past _ _ _ _ _ _ (never _ _) _ _ _ _ l3 c.in_ok-_before_second.ensures.reads in
    let l5 = past _ _ _ _ _ _ (token_stops (kind.Sign sign.Comma) (continues 0) follows _ (comma_apart texts)) _ _ _ _ l4 (c.in_ok-second.ensures.reads texts (gains_more c.in_err-third.ensures.kept g) d) in
    let l6 = past _ _ _ _ _ _ (never _ _) _ _ _ _ l5 c.in_ok-_before_third.ensures.reads in
    refused_first _ _ _ _ _ _ (token_stops (kind.Sign sign.ParenClose) (continues 0) follows _ (close_no_operator texts)) _ _ _ l6 (λ a. (then_completable _ _ (sees_completable (kind.Sign sign.ParenClose)) (λ a. (done_completable _)))) _ (c.in_err-third.ensures.reads texts g d))

pub choice-returns-in_err-third-clause-kept : goal.choice-returns-in_err-third-clause-kept
choice-returns-in_err-third-clause-kept t c =
    (gains_more c.in_ok-word.ensures.kept (gains_more c.in_ok-first.ensures.kept (gains_more c.in_ok-second.ensures.kept c.in_err-third.ensures.kept)))

pub choice-returns-in_err-_closing-clause-reads : goal.choice-returns-in_err-_closing-clause-reads
choice-returns-in_err-_closing-clause-reads t c =
    let p = err_from_is_err_and c.from_residual-in_err-_closing.result c.from_residual-in_err-_closing.ensures.1 in rw (p.1, p.2) (λ texts g d.
    let l0 = leads_self (IsChoice texts c.args.at c.args.counts) follows c.args.tokens.now in
    let l1 = past _ _ _ _ _ _ (never _ _) _ _ _ _ l0 (function_finds texts d (codes "IF") c.args.at nothing _ c.in_ok-word.word c.in_ok-word.ensures.name.0 (text_gained _ _ (gains_more c.in_ok-first.ensures.kept (gains_more c.in_ok-second.ensures.kept (gains_more c.in_ok-third.ensures.kept g))) c.in_ok-word.ensures.name.1)) in
    let l2 = past _ _ _ _ _ _ (never _ _) _ _ _ _ l1 c.in_ok-_opening.ensures.reads in
    let l3 = past _ _ _ _ _ _ (token_stops (kind.Sign sign.Comma) (continues 0) follows _ (comma_apart texts)) _ _ _ _ l2 (c.in_ok-first.ensures.reads texts (gains_more c.in_ok-second.ensures.kept (gains_more c.in_ok-third.ensures.kept g)) d) in
    let l4 = past _ _ _ _ _ _ (never _ _) _ _ _ _ l3 c.in_ok-_before_second.ensures.reads in
    let l5 = past _ _ _ _ _ _ (token_stops (kind.Sign sign.Comma) (continues 0) follows _ (comma_apart texts)) _ _ _ _ l4 (c.in_ok-second.ensures.reads texts (gains_more c.in_ok-third.ensures.kept g) d) in
    let l6 = past _ _ _ _ _ _ (never _ _) _ _ _ _ l5 c.in_ok-_before_third.ensures.reads in
    let l7 = past _ _ _ _ _ _ (token_stops (kind.Sign sign.ParenClose) (continues 0) follows _ (close_no_operator texts)) _ _ _ _ l6 (c.in_ok-third.ensures.reads texts g d) in
    refused_first _ _ _ _ _ _ (never _ _) _ _ _ l7 (λ a. (done_completable _)) _ c.in_err-_closing.ensures.reads)

pub choice-returns-in_err-_closing-clause-kept : goal.choice-returns-in_err-_closing-clause-kept
choice-returns-in_err-_closing-clause-kept t c =
    (gains_more c.in_ok-word.ensures.kept (gains_more c.in_ok-first.ensures.kept (gains_more c.in_ok-second.ensures.kept c.in_ok-third.ensures.kept)))

pub choice-returns-clause-kept : goal.choice-returns-clause-kept
choice-returns-clause-kept t c =
    (gains_more c.in_ok-word.ensures.kept (gains_more c.in_ok-first.ensures.kept (gains_more c.in_ok-second.ensures.kept c.in_ok-third.ensures.kept)))

pub choice-returns-clause-reads : goal.choice-returns-clause-reads
choice-returns-clause-reads t c =
    let items : c.in_ok-three.three.items ≡ c.in_ok-first.first ∷ c.in_ok-second.second ∷ c.in_ok-third.third ∷ [] = grind (arith, common_steps) in
    rw (c.from_vec.ensures, items) (λ texts g d.
    let l0 = leads_self (IsChoice texts c.args.at c.args.counts) follows c.args.tokens.now in
    let l1 = past _ _ _ _ _ _ (never _ _) _ _ _ _ l0 (function_finds texts d (codes "IF") c.args.at nothing _ c.in_ok-word.word c.in_ok-word.ensures.name.0 (text_gained _ _ (gains_more c.in_ok-first.ensures.kept (gains_more c.in_ok-second.ensures.kept (gains_more c.in_ok-third.ensures.kept g))) c.in_ok-word.ensures.name.1)) in
    let l2 = past _ _ _ _ _ _ (never _ _) _ _ _ _ l1 c.in_ok-_opening.ensures.reads in
    let l3 = past _ _ _ _ _ _ (token_stops (kind.Sign sign.Comma) (continues 0) follows _ (comma_apart texts)) _ _ _ _ l2 (c.in_ok-first.ensures.reads texts (gains_more c.in_ok-second.ensures.kept (gains_more c.in_ok-third.ensures.kept g)) d) in
    let l4 = past _ _ _ _ _ _ (never _ _) _ _ _ _ l3 c.in_ok-_before_second.ensures.reads in
    let l5 = past _ _ _ _ _ _ (token_stops (kind.Sign sign.Comma) (continues 0) follows _ (comma_apart texts)) _ _ _ _ l4 (c.in_ok-second.ensures.reads texts (gains_more c.in_ok-third.ensures.kept g) d) in
    let l6 = past _ _ _ _ _ _ (never _ _) _ _ _ _ l5 c.in_ok-_before_third.ensures.reads in
    let l7 = past _ _ _ _ _ _ (token_stops (kind.Sign sign.ParenClose) (continues 0) follows _ (close_no_operator texts)) _ _ _ _ l6 (c.in_ok-third.ensures.reads texts g d) in
    let l8 = past _ _ _ _ _ _ (never _ _) _ _ _ _ l7 c.in_ok-_closing.ensures.reads in
    ends _ _ _ _ _ _ l8)

pub order-returns-in_err-word-clause-reads : goal.order-returns-in_err-word-clause-reads
order-returns-in_err-word-clause-reads t c =
    let p = err_from_is_err_and c.from_residual.result c.from_residual.ensures.1 in rw (p.1, p.2) (λ texts g d. no_memory _ _ _ _ _ c.in_err-word.ensures.memory)

pub order-returns-in_err-_opening-clause-reads : goal.order-returns-in_err-_opening-clause-reads
order-returns-in_err-_opening-clause-reads t c =
    let p = err_from_is_err_and c.from_residual-in_err-_opening.result c.from_residual-in_err-_opening.ensures.1 in rw (p.1, p.2) (λ texts g d.
    let l0 = leads_self (IsOrder texts c.args.at c.args.counts) follows c.args.tokens.now in
    let l1 = past _ _ _ _ _ _ (never _ _) _ _ _ _ l0 (function_finds texts d (codes "ORDER") c.args.at nothing _ c.in_ok-word.word c.in_ok-word.ensures.name.0 (text_gained _ _ g c.in_ok-word.ensures.name.1)) in
    refused_first _ _ _ _ _ _ (never _ _) _ _ _ l1 (λ a. (then_completable _ _ (some_completable texts _) (λ a. (then_completable _ _ (sees_completable (kind.Sign sign.ParenClose)) (λ a. (done_completable _)))))) _ c.in_err-_opening.ensures.reads)

pub order-returns-in_err-args-clause-reads : goal.order-returns-in_err-args-clause-reads
order-returns-in_err-args-clause-reads t c =
    let p = err_from_is_err_and c.from_residual-in_err-args.result c.from_residual-in_err-args.ensures.1 in rw (p.1, p.2) (λ texts g d.
    let l0 = leads_self (IsOrder texts c.args.at c.args.counts) follows c.args.tokens.now in
    let l1 = past _ _ _ _ _ _ (never _ _) _ _ _ _ l0 (function_finds texts d (codes "ORDER") c.args.at nothing _ c.in_ok-word.word c.in_ok-word.ensures.name.0 (text_gained _ _ (gains_more c.in_err-args.ensures.kept g) c.in_ok-word.ensures.name.1)) in
    let l2 = past _ _ _ _ _ _ (never _ _) _ _ _ _ l1 c.in_ok-_opening.ensures.reads in
    refused_first _ _ _ _ _ _ (token_stops (kind.Sign sign.ParenClose) continues_list follows _ (close_no_list texts)) _ _ _ l2 (λ a. (then_completable _ _ (sees_completable (kind.Sign sign.ParenClose)) (λ a. (done_completable _)))) _ (c.in_err-args.ensures.reads texts g d))

pub order-returns-in_err-args-clause-kept : goal.order-returns-in_err-args-clause-kept
order-returns-in_err-args-clause-kept t c =
    (gains_more c.in_ok-word.ensures.kept c.in_err-args.ensures.kept)

pub order-returns-in_err-_closing-clause-reads : goal.order-returns-in_err-_closing-clause-reads
order-returns-in_err-_closing-clause-reads t c =
    let p = err_from_is_err_and c.from_residual-in_err-_closing.result c.from_residual-in_err-_closing.ensures.1 in rw (p.1, p.2) (λ texts g d.
    let l0 = leads_self (IsOrder texts c.args.at c.args.counts) follows c.args.tokens.now in
    let l1 = past _ _ _ _ _ _ (never _ _) _ _ _ _ l0 (function_finds texts d (codes "ORDER") c.args.at nothing _ c.in_ok-word.word c.in_ok-word.ensures.name.0 (text_gained _ _ (gains_more c.in_ok-args.ensures.kept g) c.in_ok-word.ensures.name.1)) in
    let l2 = past _ _ _ _ _ _ (never _ _) _ _ _ _ l1 c.in_ok-_opening.ensures.reads in
    let l3 = past _ _ _ _ _ _ (token_stops (kind.Sign sign.ParenClose) continues_list follows _ (close_no_list texts)) _ _ _ _ l2 (c.in_ok-args.ensures.reads texts g d) in
    refused_first _ _ _ _ _ _ (never _ _) _ _ _ l3 (λ a. (done_completable _)) _ c.in_err-_closing.ensures.reads)

pub order-returns-in_err-_closing-clause-kept : goal.order-returns-in_err-_closing-clause-kept
order-returns-in_err-_closing-clause-kept t c =
    (gains_more c.in_ok-word.ensures.kept c.in_ok-args.ensures.kept)

pub order-returns-clause-kept : goal.order-returns-clause-kept
order-returns-clause-kept t c =
    (gains_more c.in_ok-word.ensures.kept c.in_ok-args.ensures.kept)

pub order-returns-clause-reads : goal.order-returns-clause-reads
order-returns-clause-reads t c =
    rw c.from_vec.ensures (λ texts g d.
    let l0 = leads_self (IsOrder texts c.args.at c.args.counts) follows c.args.tokens.now in
    let l1 = past _ _ _ _ _ _ (never _ _) _ _ _ _ l0 (function_finds texts d (codes "ORDER") c.args.at nothing _ c.in_ok-word.word c.in_ok-word.ensures.name.0 (text_gained _ _ (gains_more c.in_ok-args.ensures.kept g) c.in_ok-word.ensures.name.1)) in
    let l2 = past _ _ _ _ _ _ (never _ _) _ _ _ _ l1 c.in_ok-_opening.ensures.reads in
    let l3 = past _ _ _ _ _ _ (token_stops (kind.Sign sign.ParenClose) continues_list follows _ (close_no_list texts)) _ _ _ _ l2 (c.in_ok-args.ensures.reads texts g d) in
    let l4 = past _ _ _ _ _ _ (never _ _) _ _ _ _ l3 c.in_ok-_closing.ensures.reads in
    ends _ _ _ _ _ _ l4)

pub called-returns-in_err-args-clause-reads : goal.called-returns-in_err-args-clause-reads
called-returns-in_err-args-clause-reads t c =
    let p = err_from_is_err_and c.from_residual.result c.from_residual.ensures.1 in rw (p.1, p.2) (λ texts g d.
    let l0 = arguments_lead texts c.args.word c.args.counts c.args.tokens.now c.in_default.ensures.seen in
    refused_first _ _ _ _ _ _ (token_stops (kind.Sign sign.ParenClose) continues_list follows _ (close_no_list texts)) _ _ _ l0 (λ a. (then_completable _ _ (sees_completable (kind.Sign sign.ParenClose)) (λ a. (done_completable _)))) _ (c.in_err-args.ensures.reads texts g d))

pub called-returns-in_err-_closing-clause-reads : goal.called-returns-in_err-_closing-clause-reads
called-returns-in_err-_closing-clause-reads t c =
    let p = err_from_is_err_and c.from_residual-in_err-_closing.result c.from_residual-in_err-_closing.ensures.1 in rw (p.1, p.2) (λ texts g d.
    let l0 = arguments_lead texts c.args.word c.args.counts c.args.tokens.now c.in_default.ensures.seen in
    let l1 = past _ _ _ _ _ _ (token_stops (kind.Sign sign.ParenClose) continues_list follows _ (close_no_list texts)) _ _ _ _ l0 (c.in_ok-args.ensures.reads texts g d) in
    refused_first _ _ _ _ _ _ (never _ _) _ _ _ l1 (λ a. (done_completable _)) _ c.in_err-_closing.ensures.reads)

pub called-returns-clause-reads : goal.called-returns-clause-reads
called-returns-clause-reads t c =
    rw c.from_vec.ensures (λ texts g d.
    let l0 = arguments_lead texts c.args.word c.args.counts c.args.tokens.now c.in_default.ensures.seen in
    let l1 = past _ _ _ _ _ _ (token_stops (kind.Sign sign.ParenClose) continues_list follows _ (close_no_list texts)) _ _ _ _ l0 (c.in_ok-args.ensures.reads texts g d) in
    let l2 = past _ _ _ _ _ _ (never _ _) _ _ _ _ l1 c.in_ok-_closing.ensures.reads in
    ends _ _ _ _ _ _ l2)

pub called-returns-in-Some-clause-reads : goal.called-returns-in-Some-clause-reads
called-returns-in-Some-clause-reads t c =
    let items : c.new.result ≡ [] = c.new.ensures in
    rw items (λ texts g d. without_finds texts c.args.word c.args.counts _ _ _ c.in-Some.ensures.seen)

pub unary-returns-in_default-clause-reads : goal.unary-returns-in_default-clause-reads
unary-returns-in_default-clause-reads t c =
    λ texts g d. reads_by (λ e. e) _ _ _ _ _ _ _ (primary_leads texts c.args.counts c.args.tokens.now c.in_default.ensures) c.primary.result (c.primary.ensures.reads texts g d)

pub unary-returns-in_default-spend-clause-reads : goal.unary-returns-in_default-spend-clause-reads
unary-returns-in_default-spend-clause-reads t c =
    let e : c.args.tokens.now ≡ c.in-Some.token ∷ c.in-Some.rest.now = c.in-Some.ensures.0 in
    rw c.stop.ensures (λ texts g d. (c.args.tokens.now, refuse_at e (prefix_exhausted texts c.args.counts c.in-Some.function.now c.in-Some.token c.in-Some.rest.now c.in-Some.ensures.1 (sym c.spend.ensures ∙ c.in_default-spend.is)), refl))

pub unary-returns-in_default-spend-clause-kept : goal.unary-returns-in_default-spend-clause-kept
unary-returns-in_default-spend-clause-kept t c =
    gains_none _

pub unary-returns-in_err-word-clause-reads : goal.unary-returns-in_err-word-clause-reads
unary-returns-in_err-word-clause-reads t c =
    let p = err_from_is_err_and c.from_residual.result c.from_residual.ensures.1 in rw (p.1, p.2) (λ texts g d. no_memory _ _ _ _ _ c.in_err-word.ensures.memory)

pub unary-returns-in_err-inner-clause-reads : goal.unary-returns-in_err-inner-clause-reads
unary-returns-in_err-inner-clause-reads t c =
    let p = err_from_is_err_and c.from_residual-in_err-inner.result c.from_residual-in_err-inner.ensures.1 in rw (p.1, p.2) (λ texts g d.
    let l0 = lead_at (c.in-Some.ensures.0) (prefix_leads texts c.args.counts c.in-Some-spend.counts c.in-Some.function.now c.in-Some.token c.in-Some.rest.now c.in-Some.ensures.1 (sym c.spend.ensures ∙ c.in-Some-spend.is)) in
    let l1 = past _ _ _ _ _ _ (never _ _) _ _ _ _ l0 (function_finds texts d c.in-Some.function.now c.in-Some.token.from nothing _ c.in_ok-word.word c.in_ok-word.ensures.name.0 (text_gained _ _ (gains_more c.in_err-inner.ensures.kept g) c.in_ok-word.ensures.name.1)) in
    refused_first _ _ _ _ _ _ (done_stops _ _ _ (same_wider _)) _ _ _ l1 (λ a. (done_completable _)) _ (c.in_err-inner.ensures.reads texts g d))

pub unary-returns-in_err-inner-clause-kept : goal.unary-returns-in_err-inner-clause-kept
unary-returns-in_err-inner-clause-kept t c =
    (gains_more c.in_ok-word.ensures.kept c.in_err-inner.ensures.kept)

pub unary-returns-clause-kept : goal.unary-returns-clause-kept
unary-returns-clause-kept t c =
    (gains_more c.in_ok-word.ensures.kept c.in_ok-inner.ensures.kept)

pub unary-returns-clause-reads : goal.unary-returns-clause-reads
unary-returns-clause-reads t c =
    let items : c.in_ok-one.one.items ≡ c.in_ok-inner.inner ∷ [] = grind (arith, common_steps) in
    rw (c.from_vec.ensures, items) (λ texts g d.
    let l0 = lead_at (c.in-Some.ensures.0) (prefix_leads texts c.args.counts c.in-Some-spend.counts c.in-Some.function.now c.in-Some.token c.in-Some.rest.now c.in-Some.ensures.1 (sym c.spend.ensures ∙ c.in-Some-spend.is)) in
    let l1 = past _ _ _ _ _ _ (never _ _) _ _ _ _ l0 (function_finds texts d c.in-Some.function.now c.in-Some.token.from nothing _ c.in_ok-word.word c.in_ok-word.ensures.name.0 (text_gained _ _ (gains_more c.in_ok-inner.ensures.kept g) c.in_ok-word.ensures.name.1)) in
    let l2 = past _ _ _ _ _ _ (done_stops _ _ _ (same_wider _)) _ _ _ _ l1 (c.in_ok-inner.ensures.reads texts g d) in
    ends _ _ _ _ _ _ l2)

pub operands-returns-in_default-clause-reads : goal.operands-returns-in_default-clause-reads
operands-returns-in_default-clause-reads t c =
    λ texts g d. operands_end texts c.args.level (c.args.first, c.args.counts) c.args.tokens.now c.in_default.ensures

pub operands-returns-in_default-clause-kept : goal.operands-returns-in_default-clause-kept
operands-returns-in_default-clause-kept t c =
    gains_none _

pub operands-returns-in_default-spend-clause-reads : goal.operands-returns-in_default-spend-clause-reads
operands-returns-in_default-spend-clause-reads t c =
    let e : c.args.tokens.now ≡ c.in-Some.token ∷ c.in-Some.rest.now = c.in-Some.ensures.0 in
    rw c.stop.ensures (λ texts g d. (c.args.tokens.now, refuse_at e (operator_exhausted texts c.args.level (c.args.first, c.args.counts) c.in-Some.function.now c.in-Some.token c.in-Some.rest.now c.in-Some.ensures.1 (sym c.spend.ensures ∙ c.in_default-spend.is)), refl))

pub operands-returns-in_default-spend-clause-kept : goal.operands-returns-in_default-spend-clause-kept
operands-returns-in_default-spend-clause-kept t c =
    gains_none _

pub operands-returns-in_err-word-clause-reads : goal.operands-returns-in_err-word-clause-reads
operands-returns-in_err-word-clause-reads t c =
    let p = err_from_is_err_and c.from_residual.result c.from_residual.ensures.1 in rw (p.1, p.2) (λ texts g d. no_memory _ _ _ _ _ c.in_err-word.ensures.memory)

pub operands-returns-in_err-second-clause-reads : goal.operands-returns-in_err-second-clause-reads
operands-returns-in_err-second-clause-reads t c =
    let p = err_from_is_err_and c.from_residual-in_err-second.result c.from_residual-in_err-second.ensures.1 in rw (p.1, p.2) (λ texts g d.
    let l0 = lead_at (c.in-Some.ensures.0) (operator_leads texts c.args.level (c.args.first, c.args.counts) c.in-Some.function.now c.in-Some-spend.counts c.in-Some.token c.in-Some.rest.now c.in-Some.ensures.1 (sym c.spend.ensures ∙ c.in-Some-spend.is)) in
    let l1 = past _ _ _ _ _ _ (never _ _) _ _ _ _ l0 (function_finds texts d c.in-Some.function.now c.in-Some.token.from nothing _ c.in_ok-word.word c.in_ok-word.ensures.name.0 (text_gained _ _ (gains_more c.in_err-second.ensures.kept g) c.in_ok-word.ensures.name.1)) in
    refused_first _ _ _ _ _ _ (operand_stops texts c.args.level _) _ _ _ l1 (λ a. (further_operands texts _ _)) _ (level_refusals texts c.args.level (c.args.level + 1) _ _ _ _ (omega arith) (c.in_err-second.ensures.reads texts g d)))

pub operands-returns-in_err-second-clause-kept : goal.operands-returns-in_err-second-clause-kept
operands-returns-in_err-second-clause-kept t c =
    (gains_more c.in_ok-word.ensures.kept c.in_err-second.ensures.kept)

pub operands-returns-clause-kept : goal.operands-returns-clause-kept
operands-returns-clause-kept t c =
    (gains_more c.in_ok-word.ensures.kept (gains_more c.in_ok-second.ensures.kept c.operands.ensures.kept))

pub operands-returns-clause-reads : goal.operands-returns-clause-reads
operands-returns-clause-reads t c =
    let items : c.in_ok-both.both.items ≡ c.args.first ∷ c.in_ok-second.second ∷ [] = grind (arith, common_steps) in
    (λ texts g d.
    let l0 = lead_at (c.in-Some.ensures.0) (operator_leads texts c.args.level (c.args.first, c.args.counts) c.in-Some.function.now c.in-Some-spend.counts c.in-Some.token c.in-Some.rest.now c.in-Some.ensures.1 (sym c.spend.ensures ∙ c.in-Some-spend.is)) in
    let l1 = past _ _ _ _ _ _ (never _ _) _ _ _ _ l0 (function_finds texts d c.in-Some.function.now c.in-Some.token.from nothing _ c.in_ok-word.word c.in_ok-word.ensures.name.0 (text_gained _ _ (gains_more c.in_ok-second.ensures.kept (gains_more c.operands.ensures.kept g)) c.in_ok-word.ensures.name.1)) in
    let l2 = past _ _ _ _ _ _ (operand_stops texts c.args.level _) _ _ _ _ l1 (level_reads texts c.args.level (c.args.level + 1) _ _ _ _ (omega arith) (c.in_ok-second.ensures.reads texts (gains_more c.operands.ensures.kept g) d)) in
    let h = rw (c.from_vec.ensures, items) at (c.operands.ensures.reads texts g d) in
    reads_by (λ e. e) _ _ _ _ _ _ _ l2 c.operands.result h)

pub expression-returns-in_err-tree-clause-reads : goal.expression-returns-in_err-tree-clause-reads
expression-returns-in_err-tree-clause-reads t c =
    let p = err_from_is_err_and c.from_residual.result c.from_residual.ensures.1 in rw (p.1, p.2) (λ texts g d.
    refused_by _ _ _ _ _ _ _ (λ bad r. looser_fails texts c.args.level 6 c.args.counts c.args.tokens.now bad (omega arith) (omega arith) r) _ (c.in_err-tree.ensures.reads texts g d))

pub expression-loop-at-init : goal.expression-loop-at-init
expression-loop-at-init t c =
    record {
      found = λ texts g d. c.in_ok-tree.ensures.reads texts g d;
      above = omega arith;
      below = omega arith;
      shorter = c.in_ok-tree.ensures.shorter;
      kept = c.in_ok-tree.ensures.kept;
      same = c.in_ok-tree.ensures.same;
      left = c.in_ok-tree.ensures.left;
    }

pub expression-returns-in_err-whole-clause-reads : goal.expression-returns-in_err-whole-clause-reads
expression-returns-in_err-whole-clause-reads t c =
    let p = err_from_is_err_and c.from_residual-in_err-whole.result c.from_residual-in_err-whole.ensures.1 in rw (p.1, p.2) (λ texts g d.
    refused_by _ _ _ _ _ _ _ (λ bad r. looser_fails texts c.args.level (c.loop-at.at - 1) c.args.counts c.args.tokens.now bad (omega arith) (omega arith) ((level_leads texts (c.loop-at.at - 1) c.loop-at.at c.args.counts c.args.tokens.now _ _ (omega arith) (omega arith) (c.loop-at.invariant.found texts (gains_more c.in_err-whole.ensures.kept g) d)).refuses bad r)) _ (c.in_err-whole.ensures.reads texts g d))

pub expression-returns-in_err-whole-clause-kept : goal.expression-returns-in_err-whole-clause-kept
expression-returns-in_err-whole-clause-kept t c =
    gains_more c.loop-at.invariant.kept c.in_err-whole.ensures.kept

pub expression-loop-at-preserved : goal.expression-loop-at-preserved
expression-loop-at-preserved t c =
    record {
      found = λ texts g d. (level_leads texts (c.loop-at.at - 1) c.loop-at.at c.args.counts c.args.tokens.now _ _ (omega arith) (omega arith) (c.loop-at.invariant.found texts (gains_more c.in_ok-whole.ensures.kept g) d)).finds _ _ (c.in_ok-whole.ensures.reads texts g d);
      above = omega arith;
      below = omega arith;
      shorter = grind (arith, common_steps);
      kept = gains_more c.loop-at.invariant.kept c.in_ok-whole.ensures.kept;
      same = keeps_more c.loop-at.invariant.same c.in_ok-whole.ensures.same;
      left = grind (arith, common_steps);
    }

pub expression-returns-clause-reads : goal.expression-returns-clause-reads
expression-returns-clause-reads t c =
    λ texts g d. let same : c.loop-at.at ≡ c.args.level = omega arith in
    subst (λ z. Finds (IsExpr texts z c.args.counts) (continues z) c.args.tokens.now (c.loop-at.tree, c.loop-at.left) c.loop-at.rest.now) same (c.loop-at.invariant.found texts g d)

pub expression-returns-clause-kept : goal.expression-returns-clause-kept
expression-returns-clause-kept t c =
    c.loop-at.invariant.kept

pub counted-returns-then-is_sign-clause-reads : goal.counted-returns-then-is_sign-clause-reads
counted-returns-then-is_sign-clause-reads t c =
    λ texts g d. reads_by (λ e. e) _ _ _ _ _ _ _ (parenthesized_leads texts c.args.token c.args.counts c.args.tokens.now (c.is_sign.ensures.0 c.if-is_sign.true)) c.parenthesized.result (c.parenthesized.ensures.reads texts g d)

pub counted-returns-in_err-word-clause-reads : goal.counted-returns-in_err-word-clause-reads
counted-returns-in_err-word-clause-reads t c =
    let p = err_from_is_err_and c.from_residual.result c.from_residual.ensures.1 in rw (p.1, p.2) (λ texts g d. no_memory _ _ _ _ _ c.in_err-word.ensures.memory)

pub counted-returns-then-is_key-clause-reads : goal.counted-returns-then-is_key-clause-reads
counted-returns-then-is_key-clause-reads t c =
    rw c.new.ensures (λ texts g d.
    let l0 = null_leads texts c.args.token c.args.counts c.args.tokens.now (c.is_key.ensures.0 c.if-is_key.true) in
    let l1 = past _ _ _ _ _ _ (never _ _) _ _ _ _ l0 (function_finds texts d (codes "PTGNULL") c.args.token.from nothing _ c.in_ok-word.word c.in_ok-word.ensures.name.0 (text_gained _ _ g c.in_ok-word.ensures.name.1)) in
    ends _ _ _ _ _ _ l1)

pub counted-returns-then-is_key-2-clause-reads : goal.counted-returns-then-is_key-2-clause-reads
counted-returns-then-is_key-2-clause-reads t c =
    λ texts g d. reads_by (λ e. e) _ _ _ _ _ _ _ (choice_leads texts c.args.token c.args.counts c.args.tokens.now (c.is_key-2.ensures.0 c.if-is_key-2.true)) c.choice.result (c.choice.ensures.reads texts g d)

pub counted-returns-clause-reads : goal.counted-returns-clause-reads
counted-returns-clause-reads t c =
    λ texts g d. reads_by (λ e. e) _ _ _ _ _ _ _ (order_leads texts c.args.token c.args.counts c.args.tokens.now (order_word c.args.token.what c.requires (λ d. let is_it : IsTrue c.is_sign.result = c.is_sign.ensures.1 d in cc (c.if-is_sign.false)) (λ d. let is_it : IsTrue c.is_key.result = c.is_key.ensures.1 d in cc (c.if-is_key.false)) (λ d. let is_it : IsTrue c.is_key-2.result = c.is_key-2.ensures.1 d in cc (c.if-is_key-2.false)))) c.order.result (c.order.ensures.reads texts g d)

pub named-returns-in_default-spend-clause-reads : goal.named-returns-in_default-spend-clause-reads
named-returns-in_default-spend-clause-reads t c =
    rw c.stop.ensures (λ texts g d. (c.args.tokens.now, called_exhausted texts c.args.counts c.args.word c.args.tokens.now _ _ (sym c.spend.ensures ∙ c.in_default-spend.is) c.in-Some.ensures.seen, refl))

pub named-returns-in_default-spend-clause-kept : goal.named-returns-in_default-spend-clause-kept
named-returns-in_default-spend-clause-kept t c =
    gains_none _

pub named-returns-in-Some-clause-reads : goal.named-returns-in-Some-clause-reads
named-returns-in-Some-clause-reads t c =
    λ texts g d. reads_by (λ e. e) _ _ _ _ _ _ _ (called_leads texts c.args.counts _ c.args.word c.args.tokens.now _ _ (sym c.spend.ensures ∙ c.in-Some-spend.is) c.in-Some.ensures.seen) c.called.result (c.called.ensures.reads texts g d)

pub named-returns-clause-reads : goal.named-returns-clause-reads
named-returns-clause-reads t c =
    λ texts g d. reads_by (λ e. e) _ _ _ _ _ _ _ (placed_leads texts c.args.counts c.args.word c.args.tokens.now c.in_default.ensures.seen) c.indexed.result (c.indexed.ensures.reads texts)

pub named-returns-clause-kept : goal.named-returns-clause-kept
named-returns-clause-kept t c =
    gains_none _

pub primary-returns-in_default-clause-reads : goal.primary-returns-in_default-clause-reads
primary-returns-in_default-clause-reads t c =
    let e : c.args.tokens.now ≡ [] = c.in_default.ensures in rw c.stop.ensures (λ texts g d. (c.args.tokens.now, refuse_at e (end_refuses texts c.args.counts), refl))

pub primary-returns-in_default-clause-kept : goal.primary-returns-in_default-clause-kept
primary-returns-in_default-clause-kept t c =
    gains_none _

pub primary-returns-in_default-constant-clause-reads : goal.primary-returns-in_default-constant-clause-reads
primary-returns-in_default-constant-clause-reads t c =
    let e : c.args.tokens.now ≡ c.in-Some.token ∷ c.in-Some.rest.now = c.in-Some.ensures in
    rw c.stop-in_default-constant.ensures (λ texts g d. (c.args.tokens.now, refuse_at e (constant_refuses texts c.args.counts c.in-Some.token c.in-Some.rest.now (sym c.begins.ensures ∙ c.in-Constant.is) (sym c.constant.ensures ∙ c.in_default-constant.is)), refl))

pub primary-returns-in_default-constant-clause-kept : goal.primary-returns-in_default-constant-clause-kept
primary-returns-in_default-constant-clause-kept t c =
    gains_none _

pub primary-returns-in-Some-constant-clause-reads : goal.primary-returns-in-Some-constant-clause-reads
primary-returns-in-Some-constant-clause-reads t c =
    let e : c.args.tokens.now ≡ c.in-Some.token ∷ c.in-Some.rest.now = c.in-Some.ensures in
    λ texts g d. find_at e (constant_finds texts c.args.counts c.in-Some.token c.in-Some.rest.now c.in-Some-constant.tree (sym c.constant.ensures ∙ c.in-Some-constant.is))

pub primary-returns-in-Some-constant-clause-kept : goal.primary-returns-in-Some-constant-clause-kept
primary-returns-in-Some-constant-clause-kept t c =
    gains_none _

pub primary-returns-in_default-spend-clause-reads : goal.primary-returns-in_default-spend-clause-reads
primary-returns-in_default-spend-clause-reads t c =
    let e : c.args.tokens.now ≡ c.in-Some.token ∷ c.in-Some.rest.now = c.in-Some.ensures in
    rw c.stop-in_default-spend.ensures (λ texts g d. (c.args.tokens.now, refuse_at e (counted_exhausted texts c.args.counts c.in-Some.token c.in-Some.rest.now (sym c.begins.ensures ∙ c.in-Counted.is) (sym c.spend.ensures ∙ c.in_default-spend.is)), refl))

pub primary-returns-in_default-spend-clause-kept : goal.primary-returns-in_default-spend-clause-kept
primary-returns-in_default-spend-clause-kept t c =
    gains_none _

pub primary-returns-in-Some-spend-clause-reads : goal.primary-returns-in-Some-spend-clause-reads
primary-returns-in-Some-spend-clause-reads t c =
    let e : c.args.tokens.now ≡ c.in-Some.token ∷ c.in-Some.rest.now = c.in-Some.ensures in
    λ texts g d. reads_by (λ e. e) _ _ _ _ _ _ _ (lead_at e (counted_leads texts c.args.counts c.in-Some-spend.left c.in-Some.token (sym c.begins.ensures ∙ c.in-Counted.is) (sym c.spend.ensures ∙ c.in-Some-spend.is) c.in-Some.rest.now)) c.counted.result (c.counted.ensures.reads texts g d)

pub primary-returns-in_err-tree-in-Including-clause-reads : goal.primary-returns-in_err-tree-in-Including-clause-reads
primary-returns-in_err-tree-in-Including-clause-reads t c =
    let e : c.args.tokens.now ≡ c.in-Some.token ∷ c.in-Some.rest.now = c.in-Some.ensures in
    let p = err_from_is_err_and c.from_residual.result c.from_residual.ensures.1 in rw (p.1, p.2) (λ texts g d.
    let l0 = lead_at e (including_leads texts c.args.counts c.in-Some.token (including_word c.in-Some.token.what (sym c.begins.ensures ∙ c.in-Including.is)) c.in-Some.rest.now) in
    refused_first _ _ _ _ _ _ (never _ _) _ _ _ l0 (λ a. done_completable _) _ c.in_err-tree-in-Including.ensures.reads)

pub primary-returns-in_err-tree-in-Including-clause-kept : goal.primary-returns-in_err-tree-in-Including-clause-kept
primary-returns-in_err-tree-in-Including-clause-kept t c =
    gains_none _

pub primary-returns-in_ok-tree-in-Including-clause-reads : goal.primary-returns-in_ok-tree-in-Including-clause-reads
primary-returns-in_ok-tree-in-Including-clause-reads t c =
    let e : c.args.tokens.now ≡ c.in-Some.token ∷ c.in-Some.rest.now = c.in-Some.ensures in
    λ texts g d.
    let l0 = lead_at e (including_leads texts c.args.counts c.in-Some.token (including_word c.in-Some.token.what (sym c.begins.ensures ∙ c.in-Including.is)) c.in-Some.rest.now) in
    let l1 = past _ _ _ _ _ _ (never _ _) _ _ _ _ l0 c.in_ok-tree-in-Including.ensures.reads in
    ends _ _ _ _ _ _ l1

pub primary-returns-in_ok-tree-in-Including-clause-kept : goal.primary-returns-in_ok-tree-in-Including-clause-kept
primary-returns-in_ok-tree-in-Including-clause-kept t c =
    gains_none _

pub primary-returns-in_err-tree-in-Context-clause-reads : goal.primary-returns-in_err-tree-in-Context-clause-reads
primary-returns-in_err-tree-in-Context-clause-reads t c =
    let e : c.args.tokens.now ≡ c.in-Some.token ∷ c.in-Some.rest.now = c.in-Some.ensures in
    let p = err_from_is_err_and c.from_residual-in_err-tree-in-Context.result c.from_residual-in_err-tree-in-Context.ensures.1 in rw (p.1, p.2) (λ texts g d.
    let l0 = lead_there e (context_leads texts c.args.counts c.in-Some.token c.in-Some.rest.now (sym c.begins.ensures ∙ c.in-Context.is)) in
    refused_first _ _ _ _ _ _ (never _ _) _ _ _ l0 (λ a. done_completable _) _ c.in_err-tree-in-Context.ensures.reads)

pub primary-returns-in_err-tree-in-Context-clause-kept : goal.primary-returns-in_err-tree-in-Context-clause-kept
primary-returns-in_err-tree-in-Context-clause-kept t c =
    gains_none _

pub primary-returns-in_ok-tree-in-Context-clause-reads : goal.primary-returns-in_ok-tree-in-Context-clause-reads
primary-returns-in_ok-tree-in-Context-clause-reads t c =
    let e : c.args.tokens.now ≡ c.in-Some.token ∷ c.in-Some.rest.now = c.in-Some.ensures in
    λ texts g d.
    let l0 = lead_there e (context_leads texts c.args.counts c.in-Some.token c.in-Some.rest.now (sym c.begins.ensures ∙ c.in-Context.is)) in
    let l1 = past _ _ _ _ _ _ (never _ _) _ _ _ _ l0 c.in_ok-tree-in-Context.ensures.reads in
    ends _ _ _ _ _ _ l1

pub primary-returns-in_ok-tree-in-Context-clause-kept : goal.primary-returns-in_ok-tree-in-Context-clause-kept
primary-returns-in_ok-tree-in-Context-clause-kept t c =
    gains_none _

pub primary-returns-in-Constituents-clause-reads : goal.primary-returns-in-Constituents-clause-reads
primary-returns-in-Constituents-clause-reads t c =
    let e : c.args.tokens.now ≡ c.in-Some.token ∷ c.in-Some.rest.now = c.in-Some.ensures in
    λ texts g d. reads_by (λ e. e) _ _ _ _ _ _ _ (leads_on _ _ _ _ _ _ _ _ _ (widens _ is_option follows _ option_wider) (lead_at e (constituents_leads texts c.args.counts c.in-Some.token (constituents_word c.in-Some.token.what (sym c.begins.ensures ∙ c.in-Constituents.is)) c.in-Some.rest.now))) c.numbered.result c.numbered.ensures.reads

pub primary-returns-in-Constituents-clause-kept : goal.primary-returns-in-Constituents-clause-kept
primary-returns-in-Constituents-clause-kept t c =
    gains_none _

pub primary-returns-in_err-word-in-Word-clause-reads : goal.primary-returns-in_err-word-in-Word-clause-reads
primary-returns-in_err-word-in-Word-clause-reads t c =
    let e : c.args.tokens.now ≡ c.in-Some.token ∷ c.in-Some.rest.now = c.in-Some.ensures in
    let p = err_from_is_err_and c.from_residual-in_err-word-in-Word.result c.from_residual-in_err-word-in-Word.ensures.1 in rw (p.1, p.2) (λ texts g d.
    let l0 = lead_there e (word_leads texts c.args.counts c.in-Some.token c.in-Some.rest.now (sym c.begins.ensures ∙ c.in-Word.is)) in
    refused_first _ _ _ _ _ _ (never _ _) _ _ _ l0 (λ a. named_completable texts _ a) _ c.in_err-word-in-Word.ensures.reads)

pub primary-returns-in_err-word-in-Word-clause-kept : goal.primary-returns-in_err-word-in-Word-clause-kept
primary-returns-in_err-word-in-Word-clause-kept t c =
    gains_none _

pub primary-returns-in_ok-word-in-Word-clause-reads : goal.primary-returns-in_ok-word-in-Word-clause-reads
primary-returns-in_ok-word-in-Word-clause-reads t c =
    let e : c.args.tokens.now ≡ c.in-Some.token ∷ c.in-Some.rest.now = c.in-Some.ensures in
    λ texts g d.
    let l0 = lead_there e (word_leads texts c.args.counts c.in-Some.token c.in-Some.rest.now (sym c.begins.ensures ∙ c.in-Word.is)) in
    let l1 = past _ _ _ _ _ _ (never _ _) _ _ _ _ l0 c.in_ok-word-in-Word.ensures.reads in
    reads_by (λ e. e) _ _ _ _ _ _ _ l1 c.named.result (c.named.ensures.reads texts g d)

pub primary-returns-in-Other-clause-reads : goal.primary-returns-in-Other-clause-reads
primary-returns-in-Other-clause-reads t c =
    let e : c.args.tokens.now ≡ c.in-Some.token ∷ c.in-Some.rest.now = c.in-Some.ensures in
    rw c.stop-in-Other.ensures (λ texts g d. (c.args.tokens.now, refuse_at e (other_refuses texts c.args.counts c.in-Some.token c.in-Some.rest.now (sym c.begins.ensures ∙ c.in-Other.is)), refl))

pub primary-returns-in-Other-clause-kept : goal.primary-returns-in-Other-clause-kept
primary-returns-in-Other-clause-kept t c =
    gains_none _

pub some_expressions-returns-in_err-first-clause-reads : goal.some_expressions-returns-in_err-first-clause-reads
some_expressions-returns-in_err-first-clause-reads t c =
    let p = err_from_is_err_and c.from_residual.result c.from_residual.ensures.1 in rw (p.1, p.2) (λ texts g d.
    refused_by _ _ _ _ _ _ _ (λ bad r. some_fails texts c.args.counts c.args.tokens.now bad r) _ (c.in_err-first.ensures.reads texts g d))

pub some_expressions-loop-more-init : goal.some_expressions-loop-more-init
some_expressions-loop-more-init t c =
    record {
      leads = λ texts g d. let items : c.in_ok-found.found.items ≡ c.in_ok-first.first ∷ [] = grind (arith, common_steps) in
          rw items (some_leads texts c.args.counts c.args.tokens.now _ _ (c.in_ok-first.ensures.reads texts g d));
      shorter = c.in_ok-first.ensures.shorter;
      kept = c.in_ok-first.ensures.kept;
      same = c.in_ok-first.ensures.same;
      left = c.in_ok-first.ensures.left;
    }

pub some_expressions-returns-in_err-next-clause-reads : goal.some_expressions-returns-in_err-next-clause-reads
some_expressions-returns-in_err-next-clause-reads t c =
    let p = err_from_is_err_and c.from_residual-in_err-next.result c.from_residual-in_err-next.ensures.1 in rw (p.1, p.2) (λ texts g d.
    refused_by _ _ _ _ _ _ _ (λ bad r. (c.loop-more.invariant.leads texts (gains_more c.in_err-next.ensures.kept g) d).refuses bad (further_fails texts (c.loop-more.found.items, c.loop-more.left) _ _ bad _ c.in-Some.ensures.seen r)) _ (c.in_err-next.ensures.reads texts g d))

pub some_expressions-returns-in_err-next-clause-kept : goal.some_expressions-returns-in_err-next-clause-kept
some_expressions-returns-in_err-next-clause-kept t c =
    gains_more c.loop-more.invariant.kept c.in_err-next.ensures.kept

pub some_expressions-loop-more-preserved : goal.some_expressions-loop-more-preserved
some_expressions-loop-more-preserved t c =
    record {
      leads = λ texts g d. let items : c.push.new.self.items ≡ c.loop-more.found.items ++ c.in_ok-next.next ∷ [] = grind (arith, common_steps) in
          rw items (leads_on _ _ _ _ _ _ _ _ _ (further_leads texts (c.loop-more.found.items, c.loop-more.left) _ _ _ _ (c.in_ok-next.next, c.in_ok-next.counts) c.in-Some.ensures.seen (c.in_ok-next.ensures.reads texts g d))
          (c.loop-more.invariant.leads texts (gains_more c.in_ok-next.ensures.kept g) d));
      shorter = grind (arith, common_steps);
      kept = gains_more c.loop-more.invariant.kept c.in_ok-next.ensures.kept;
      same = keeps_more c.loop-more.invariant.same c.in_ok-next.ensures.same;
      left = grind (arith, common_steps);
    }

pub some_expressions-returns-clause-reads : goal.some_expressions-returns-clause-reads
some_expressions-returns-clause-reads t c =
    λ texts g d. (c.loop-more.invariant.leads texts g d).finds (c.loop-more.found.items, c.loop-more.left) _ (further_ends texts (c.loop-more.found.items, c.loop-more.left) _ c.in_default.ensures.seen)

pub some_expressions-returns-clause-kept : goal.some_expressions-returns-clause-kept
some_expressions-returns-clause-kept t c =
    c.loop-more.invariant.kept

pub some_expressions-returns-in_err-push-clause-kept : goal.some_expressions-returns-in_err-push-clause-kept
some_expressions-returns-in_err-push-clause-kept t c =
    gains_more c.loop-more.invariant.kept c.in_ok-next.ensures.kept

pub choice-returns-in_err-first-clause-same : goal.choice-returns-in_err-first-clause-same
choice-returns-in_err-first-clause-same t c =
    (keeps_more (c.in_ok-word.ensures.same if_among) c.in_err-first.ensures.same)

pub choice-returns-in_err-_before_second-clause-same : goal.choice-returns-in_err-_before_second-clause-same
choice-returns-in_err-_before_second-clause-same t c =
    (keeps_more (c.in_ok-word.ensures.same if_among) c.in_ok-first.ensures.same)

pub choice-returns-in_err-second-clause-same : goal.choice-returns-in_err-second-clause-same
choice-returns-in_err-second-clause-same t c =
    (keeps_more (c.in_ok-word.ensures.same if_among) (keeps_more c.in_ok-first.ensures.same c.in_err-second.ensures.same))

pub choice-returns-in_err-_before_third-clause-same : goal.choice-returns-in_err-_before_third-clause-same
choice-returns-in_err-_before_third-clause-same t c =
    (keeps_more (c.in_ok-word.ensures.same if_among) (keeps_more c.in_ok-first.ensures.same c.in_ok-second.ensures.same))

pub choice-returns-in_err-third-clause-same : goal.choice-returns-in_err-third-clause-same
choice-returns-in_err-third-clause-same t c =
    (keeps_more (c.in_ok-word.ensures.same if_among) (keeps_more c.in_ok-first.ensures.same (keeps_more c.in_ok-second.ensures.same c.in_err-third.ensures.same)))

pub choice-returns-in_err-_closing-clause-same : goal.choice-returns-in_err-_closing-clause-same
choice-returns-in_err-_closing-clause-same t c =
    (keeps_more (c.in_ok-word.ensures.same if_among) (keeps_more c.in_ok-first.ensures.same (keeps_more c.in_ok-second.ensures.same c.in_ok-third.ensures.same)))

pub choice-returns-clause-same : goal.choice-returns-clause-same
choice-returns-clause-same t c =
    (keeps_more (c.in_ok-word.ensures.same if_among) (keeps_more c.in_ok-first.ensures.same (keeps_more c.in_ok-second.ensures.same c.in_ok-third.ensures.same)))

pub order-returns-in_err-args-clause-same : goal.order-returns-in_err-args-clause-same
order-returns-in_err-args-clause-same t c =
    (keeps_more (c.in_ok-word.ensures.same order_among) c.in_err-args.ensures.same)

pub order-returns-in_err-_closing-clause-same : goal.order-returns-in_err-_closing-clause-same
order-returns-in_err-_closing-clause-same t c =
    (keeps_more (c.in_ok-word.ensures.same order_among) c.in_ok-args.ensures.same)

pub order-returns-clause-same : goal.order-returns-clause-same
order-returns-clause-same t c =
    (keeps_more (c.in_ok-word.ensures.same order_among) c.in_ok-args.ensures.same)

pub unary-returns-in_default-spend-clause-same : goal.unary-returns-in_default-spend-clause-same
unary-returns-in_default-spend-clause-same t c =
    keeps_none _

pub unary-returns-in_err-inner-clause-same : goal.unary-returns-in_err-inner-clause-same
unary-returns-in_err-inner-clause-same t c =
    (keeps_more (c.in_ok-word.ensures.same (prefix_among _ _ c.in-Some.ensures.1)) c.in_err-inner.ensures.same)

pub unary-returns-clause-same : goal.unary-returns-clause-same
unary-returns-clause-same t c =
    (keeps_more (c.in_ok-word.ensures.same (prefix_among _ _ c.in-Some.ensures.1)) c.in_ok-inner.ensures.same)

pub operands-returns-in_default-clause-same : goal.operands-returns-in_default-clause-same
operands-returns-in_default-clause-same t c =
    keeps_none _

pub operands-returns-in_default-spend-clause-same : goal.operands-returns-in_default-spend-clause-same
operands-returns-in_default-spend-clause-same t c =
    keeps_none _

pub operands-returns-in_err-second-clause-same : goal.operands-returns-in_err-second-clause-same
operands-returns-in_err-second-clause-same t c =
    (keeps_more (c.in_ok-word.ensures.same (infix_among _ _ _ c.in-Some.ensures.1)) c.in_err-second.ensures.same)

pub operands-returns-clause-same : goal.operands-returns-clause-same
operands-returns-clause-same t c =
    (keeps_more (c.in_ok-word.ensures.same (infix_among _ _ _ c.in-Some.ensures.1)) (keeps_more c.in_ok-second.ensures.same c.operands.ensures.same))

pub expression-returns-in_err-whole-clause-same : goal.expression-returns-in_err-whole-clause-same
expression-returns-in_err-whole-clause-same t c =
    keeps_more c.loop-at.invariant.same c.in_err-whole.ensures.same

pub expression-returns-clause-same : goal.expression-returns-clause-same
expression-returns-clause-same t c =
    c.loop-at.invariant.same

pub named-returns-in_default-spend-clause-same : goal.named-returns-in_default-spend-clause-same
named-returns-in_default-spend-clause-same t c =
    keeps_none _

pub named-returns-clause-same : goal.named-returns-clause-same
named-returns-clause-same t c =
    keeps_none _

pub primary-returns-in_default-clause-same : goal.primary-returns-in_default-clause-same
primary-returns-in_default-clause-same t c =
    keeps_none _

pub primary-returns-in_default-constant-clause-same : goal.primary-returns-in_default-constant-clause-same
primary-returns-in_default-constant-clause-same t c =
    keeps_none _

pub primary-returns-in-Some-constant-clause-same : goal.primary-returns-in-Some-constant-clause-same
primary-returns-in-Some-constant-clause-same t c =
    keeps_none _

pub primary-returns-in_default-spend-clause-same : goal.primary-returns-in_default-spend-clause-same
primary-returns-in_default-spend-clause-same t c =
    keeps_none _

pub primary-returns-in_err-tree-in-Including-clause-same : goal.primary-returns-in_err-tree-in-Including-clause-same
primary-returns-in_err-tree-in-Including-clause-same t c =
    keeps_none _

pub primary-returns-in_ok-tree-in-Including-clause-same : goal.primary-returns-in_ok-tree-in-Including-clause-same
primary-returns-in_ok-tree-in-Including-clause-same t c =
    keeps_none _

pub primary-returns-in_err-tree-in-Context-clause-same : goal.primary-returns-in_err-tree-in-Context-clause-same
primary-returns-in_err-tree-in-Context-clause-same t c =
    keeps_none _

pub primary-returns-in_ok-tree-in-Context-clause-same : goal.primary-returns-in_ok-tree-in-Context-clause-same
primary-returns-in_ok-tree-in-Context-clause-same t c =
    keeps_none _

pub primary-returns-in-Constituents-clause-same : goal.primary-returns-in-Constituents-clause-same
primary-returns-in-Constituents-clause-same t c =
    keeps_none _

pub primary-returns-in_err-word-in-Word-clause-same : goal.primary-returns-in_err-word-in-Word-clause-same
primary-returns-in_err-word-in-Word-clause-same t c =
    keeps_none _

pub primary-returns-in-Other-clause-same : goal.primary-returns-in-Other-clause-same
primary-returns-in-Other-clause-same t c =
    keeps_none _

pub some_expressions-returns-in_err-next-clause-same : goal.some_expressions-returns-in_err-next-clause-same
some_expressions-returns-in_err-next-clause-same t c =
    keeps_more c.loop-more.invariant.same c.in_err-next.ensures.same

pub some_expressions-returns-clause-same : goal.some_expressions-returns-clause-same
some_expressions-returns-clause-same t c =
    c.loop-more.invariant.same

pub some_expressions-returns-in_err-push-clause-same : goal.some_expressions-returns-in_err-push-clause-same
some_expressions-returns-in_err-push-clause-same t c =
    keeps_more c.loop-more.invariant.same c.in_ok-next.ensures.same

pub choice-returns-in_err-word-clause-same : goal.choice-returns-in_err-word-clause-same
choice-returns-in_err-word-clause-same t c =
    c.in_err-word.ensures.same if_among

pub order-returns-in_err-word-clause-same : goal.order-returns-in_err-word-clause-same
order-returns-in_err-word-clause-same t c =
    c.in_err-word.ensures.same order_among

pub unary-returns-in_err-word-clause-same : goal.unary-returns-in_err-word-clause-same
unary-returns-in_err-word-clause-same t c =
    c.in_err-word.ensures.same (prefix_among _ _ c.in-Some.ensures.1)

pub operands-returns-in_err-word-clause-same : goal.operands-returns-in_err-word-clause-same
operands-returns-in_err-word-clause-same t c =
    c.in_err-word.ensures.same (infix_among _ _ _ c.in-Some.ensures.1)

pub choice-returns-in_err-_opening-clause-same : goal.choice-returns-in_err-_opening-clause-same
choice-returns-in_err-_opening-clause-same t c =
    c.in_ok-word.ensures.same if_among

pub order-returns-in_err-_opening-clause-same : goal.order-returns-in_err-_opening-clause-same
order-returns-in_err-_opening-clause-same t c =
    c.in_ok-word.ensures.same order_among

pub counted-returns-in_err-word-clause-same : goal.counted-returns-in_err-word-clause-same
counted-returns-in_err-word-clause-same t c =
    c.in_err-word.ensures.same null_among

pub counted-returns-then-is_key-clause-same : goal.counted-returns-then-is_key-clause-same
counted-returns-then-is_key-clause-same t c =
    c.in_ok-word.ensures.same null_among

pub called-returns-in-Some-clause-same : goal.called-returns-in-Some-clause-same
called-returns-in-Some-clause-same t c =
    keeps_none _

pub choice-returns-in_err-three-clause-same : goal.choice-returns-in_err-three-clause-same
choice-returns-in_err-three-clause-same t c =
    keeps_more (c.in_ok-word.ensures.same if_among) (keeps_more c.in_ok-first.ensures.same (keeps_more c.in_ok-second.ensures.same c.in_ok-third.ensures.same))

pub unary-returns-in_err-one-clause-same : goal.unary-returns-in_err-one-clause-same
unary-returns-in_err-one-clause-same t c =
    keeps_more (c.in_ok-word.ensures.same (prefix_among _ _ c.in-Some.ensures.1)) c.in_ok-inner.ensures.same

pub operands-returns-in_err-both-clause-same : goal.operands-returns-in_err-both-clause-same
operands-returns-in_err-both-clause-same t c =
    keeps_more (c.in_ok-word.ensures.same (infix_among _ _ _ c.in-Some.ensures.1)) c.in_ok-second.ensures.same
