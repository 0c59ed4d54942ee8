use Rattle.std.specs.Prelude.{List, true, false}
use Rattle.lido_syntax.specs.declared.spec.Element.{Element}
use Rattle.std.proofs.lemmas.Result.{err_from_is_err_and}
use Rattle.lido_base.specs.Reading.{nothing}
use Rattle.lido_lexer.specs.declared.sign.Sign.TheVariants as sign
use Rattle.lido_lexer.specs.declared.token.TokenKind.TheVariants as kind
use Rattle.lido_reader.specs.Items.{IsRight, continues_right, is_bar, is_element}
use Rattle.lido_computations.proofs.PhrasesLemmas.{no_memory, sees_finds}
use Rattle.lido_reader.proofs.PartsLemmas.{finish, then_finish, go_on, go_past, stuck_at, stuck_in, read_whole, done_stops_wide}
use Rattle.lido_reader.proofs.RightSidesLemmas.{production_leads, listof_leads, element_continues, bar_continues, choices_completable}
use Rattle.lido_reader.proofs.right_sides.right_side.Goals as goal

pub returns-in_err-produced-clause-reads : goal.returns-in_err-produced-clause-reads
returns-in_err-produced-clause-reads c = let p = err_from_is_err_and c.from_residual.result c.from_residual.ensures.1 in rw (p.1, p.2)
    (no_memory IsRight continues_right c.args.end c.args.tokens.now c.in_err-produced.field-0.0 c.in_err-produced.ensures.memory)

pub returns-in-Some-clause-reads : goal.returns-in-Some-clause-reads
returns-in-Some-clause-reads c =
    let produces = sees_finds (kind.Sign sign.Produces) nothing c.args.tokens.now c.in-Some.behind_sign.now c.in-Some.field-0-0 c.in-Some.ensures.seen in
    let l = go_on (production_leads c.args.tokens.now c.in-Some.behind_sign.now c.in-Some.field-0-0 c.in-Some.ensures.seen) produces in
    read_whole (go_past (done_stops_wide is_element continues_right element_continues (λ (all : List Element). (false, all))) l c.in_ok-produced.ensures.reads)

pub returns-in_err-behind_word-clause-reads : goal.returns-in_err-behind_word-clause-reads
returns-in_err-behind_word-clause-reads c = let p = err_from_is_err_and c.from_residual-in_err-behind_word.result c.from_residual-in_err-behind_word.ensures.1 in rw (p.1, p.2)
    (stuck_at c.args.end (listof_leads c.args.tokens.now c.in_default.ensures.seen) (λ word. then_finish choices_completable (λ all. finish)) c.in_err-behind_word.field-0.0 c.in_err-behind_word.ensures.reads)

pub returns-in_err-listed-clause-reads : goal.returns-in_err-listed-clause-reads
returns-in_err-listed-clause-reads c = let p = err_from_is_err_and c.from_residual-in_err-listed.result c.from_residual-in_err-listed.ensures.1 in rw (p.1, p.2)
    (stuck_in c.args.end (done_stops_wide is_bar continues_right bar_continues (λ (all : List Element). (true, all))) (go_on (listof_leads c.args.tokens.now c.in_default.ensures.seen) c.in_ok-behind_word.ensures.reads) (λ all. finish)
    c.in_err-listed.field-0.0 c.in_err-listed.ensures.reads)

pub returns-clause-reads : goal.returns-clause-reads
returns-clause-reads c = read_whole (go_past (done_stops_wide is_bar continues_right bar_continues (λ (all : List Element). (true, all)))
    (go_on (listof_leads c.args.tokens.now c.in_default.ensures.seen) c.in_ok-behind_word.ensures.reads) c.in_ok-listed.ensures.reads)
