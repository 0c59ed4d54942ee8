use Rattle.std.proofs.Common.{◌≡◌, ◌∙◌, inl, inr, ℕ, Some, map, List, [], ◌∷◌, length, All, ap, sym, subst, arith}
use Rattle.std.proofs.lemmas.List.{length-append}
use Rattle.lido_lexer.specs.Lexing.{HasText, IsCutInto, IsInOrder, Placed, place, shown_in}
use Rattle.lido_lexer.specs.declared.token.Token.{Token}
use Rattle.lido_lexer.proofs.Reading.{IsReading, reading_start, reading_more, reading_end, reading_stuck, reading_kept, gains_none, gains_more, gains_length, ids_more, order_more, order_within}
use Rattle.lido_base.specs.Texts.{interned}
use Rattle.lido_lexer.specs.Tables.{texts_in}
use Rattle.lido_base.proofs.TextsLemmas.{interned_none}
use Rattle.lido_lexer.proofs.TablesLemmas.{table_more}
use Rattle.lido_lexer.proofs.BytesLemmas.{empty_of, nonempty_of}
use Rattle.lido_lexer.proofs.lexer.lex_as_far.Goals as goal

pub loop-left-init : goal.loop-left-init
loop-left-init c = record {
  reading = subst (λ (l : List Token). IsReading c.args.text.now c.args.strings.now l c.skip_gaps-left.result.now) (sym c.new-tokens.ensures.items)
      (reading_start c.args.text.now c.args.strings.now c.skip_gaps-left.result.now c.skip_gaps-left.ensures.past c.skip_gaps-left.ensures.none);
  ids = λ k d less. absurd (omega (arith, less, ap length c.new-tokens.ensures.items));
  in_order = subst (λ (l : List Token). IsInOrder 0 (place (length c.args.text.now) c.skip_gaps-left.result.now) l) (sym c.new-tokens.ensures.items) (omega arith);
  count = omega (arith, ap length c.new-tokens.ensures.items, c.skip_gaps-left.ensures.bound);
  table = sym (ap (λ (l : List Token). interned c.args.strings.now (texts_in (map (shown_in c.args.strings.now) l))) c.new-tokens.ensures.items ∙ interned_none c.args.strings.now);
  kept = gains_none c.args.strings.now;
  few = omega (arith, c.skip_gaps-left.ensures.bound);
}

pub loop-left-preserved : goal.loop-left-preserved
loop-left-preserved c =
    let before = c.loop-left.invariant in
    let text = c.args.text.now in
    let from = ap (λ (p : Placed). p.from) c.in-Ok.ensures.shown in
    let to = ap (λ (p : Placed). p.to) c.in-Ok.ensures.shown in
    let gains = c.next_token.ensures.kept in
    let items = c.in_ok-push-in-Ok.ensures.items in
    record {
      reading = subst (λ (l : List Token). IsReading text c.next_token.new.strings l c.skip_gaps-left-in-Ok.result.now) (sym items)
          (reading_more text c.loop-left.strings c.next_token.new.strings c.loop-left.tokens.items c.in-Ok.token c.loop-left.left.now c.in-Ok.rest.now c.skip_gaps-left-in-Ok.result.now
          before.reading gains before.ids c.in-Ok.ensures.front c.in-Ok.ensures.shown c.skip_gaps-left-in-Ok.ensures.past c.skip_gaps-left-in-Ok.ensures.none);
      ids = subst (λ (l : List Token). All (λ (t : Token). HasText (length c.next_token.new.strings) t.what) l) (sym items)
          (ids_more (length c.loop-left.strings) (length c.next_token.new.strings) c.loop-left.tokens.items c.in-Ok.token (gains_length gains) before.ids c.in-Ok.ensures.text);
      in_order = subst (λ (l : List Token). IsInOrder 0 (place (length text) c.skip_gaps-left-in-Ok.result.now) l) (sym items)
          (order_more 0 (place (length text) c.loop-left.left.now) (place (length text) c.skip_gaps-left-in-Ok.result.now) c.loop-left.tokens.items c.in-Ok.token before.in_order
          (omega (arith, from)) (omega (arith, from, to, c.in-Ok.ensures.shorter, before.count)) (omega (arith, to, c.skip_gaps-left-in-Ok.ensures.bound)));
      count = omega (arith, before.count, ap length items, length-append c.loop-left.tokens.items (c.in-Ok.token ∷ []), c.in-Ok.ensures.shorter, c.skip_gaps-left-in-Ok.ensures.bound);
      table = subst (λ (l : List Token). c.next_token.new.strings ≡ interned c.args.strings.now (texts_in (map (shown_in c.next_token.new.strings) l))) (sym items)
          (table_more c.args.strings.now c.loop-left.strings c.next_token.new.strings c.loop-left.tokens.items c.in-Ok.token gains before.ids before.table c.in-Ok.ensures.table);
      kept = gains_more before.kept gains;
      few = omega (arith, before.few, c.next_token.ensures.few, c.in-Ok.ensures.shorter, c.skip_gaps-left-in-Ok.ensures.bound);
    }

pub returns-in-Err-Lexical-clause-cut : goal.returns-in-Err-Lexical-clause-cut
returns-in-Err-Lexical-clause-cut c =
    let old = c.loop-left.strings in
    let new = c.next_token.new.strings in
    let cut = reading_stuck c.args.text.now new c.loop-left.tokens.items c.loop-left.left.now c.in-Err-Lexical.field-0 c.in-Err-Lexical.at
    (reading_kept c.args.text.now old new c.loop-left.tokens.items c.loop-left.left.now c.next_token.ensures.kept c.loop-left.invariant.ids c.loop-left.invariant.reading)
    (nonempty_of c.is_empty.result c.loop-left.left.now c.is_empty.ensures c.loop-left-test.true) c.in-Err-Lexical.ensures.refusal c.in-Err-Lexical.field-0-is in
    subst (λ (n : ℕ). IsCutInto (length c.args.text.now) c.args.text.now (map (shown_in new) c.loop-left.tokens.items) (Some n)) (sym c.in-Err-Lexical.at-is) cut

pub returns-in-Err-Lexical-clause-table : goal.returns-in-Err-Lexical-clause-table
returns-in-Err-Lexical-clause-table c =
    let old = c.loop-left.strings in
    let new = c.next_token.new.strings in
    let same : new ≡ old = elim c.in-Err-Lexical.ensures.same [ inl memory ↦ absurd (let is = c.in-Err-Lexical.field-0-is in cc) | inr kept ↦ kept ] in
    subst (λ (l : List (List ℕ)). l ≡ interned c.args.strings.now (texts_in (map (shown_in l) c.loop-left.tokens.items))) (sym same) c.loop-left.invariant.table

pub returns-in-Err-Lexical-clause-in_order : goal.returns-in-Err-Lexical-clause-in_order
returns-in-Err-Lexical-clause-in_order c = order_within 0 (place (length c.args.text.now) c.loop-left.left.now) (length c.args.text.now) c.loop-left.tokens.items c.loop-left.invariant.in_order (omega arith)

pub returns-clause-cut : goal.returns-clause-cut
returns-clause-cut c = reading_end c.args.text.now c.loop-left.strings c.loop-left.tokens.items c.loop-left.left.now c.loop-left.invariant.reading
    (empty_of c.is_empty.result c.loop-left.left.now c.is_empty.ensures c.loop-left-test.false)
