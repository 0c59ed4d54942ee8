use Rattle.std.specs.Prelude.{◌≡◌, [], refl}
use Rattle.std.proofs.Common.{arith}
use Rattle.std.proofs.lemmas.Grind.{common_steps}
use Rattle.std.proofs.lemmas.Result.{err_from_is_err_and}
use Rattle.lido_lexer.proofs.Reading.{gains_none, gains_more}
use Rattle.lido_reader.specs.Found.{found_in}
use Rattle.lido_computations.specs.Messages.{IsComputationIn}
use Rattle.lido_reader.specs.Items.{IsFurtherItem, Repeats, begins_item, called_in, no_items}
use Rattle.lido_computations.proofs.PhrasesLemmas.{leads_self}
use Rattle.lido_reader.proofs.PartsLemmas.{repeat_found, repeat_stuck, repeat_ends}
use Rattle.lido_reader.proofs.TextsLemmas.{later_of}
use Rattle.lido_reader.proofs.ItemsLemmas.{item_steps}
use Rattle.lido_reader.proofs.AddedLemmas.{owes_first, owes_some, owes_rest}
use Rattle.lido_reader.proofs.SilentLemmas.{item_found}
use Rattle.lido_reader.proofs.items.items.Goals as goal

pub loop-alloc-init : goal.loop-alloc-init
loop-alloc-init c = record {
  leads = λ texts later.
      let rules : c.new.result.items ≡ [] = c.new.ensures.items in
      let symbols : c.new-2.result.items ≡ [] = c.new-2.ensures.items in
      let attrs : c.new-3.result.items ≡ [] = c.new-3.ensures.items in
      let terms : c.new-4.result.items ≡ [] = c.new-4.ensures.items in
      let chains : c.new-5.result.items ≡ [] = c.new-5.ensures.items in
      rw (rules, symbols, attrs, terms, chains) (leads_self (Repeats (IsFurtherItem (called_in texts) (IsComputationIn c.args.words texts)) (no_items, 0)) begins_item c.args.tokens.now);
  owes = λ texts later. record { table = λ h. let rules : c.new.result.items ≡ [] = c.new.ensures.items in rw rules refl };
  kept = gains_none c.args.strings.now;
  each = omega arith;
}

pub returns-in_err-more-clause-reads : goal.returns-in_err-more-clause-reads
returns-in_err-more-clause-reads c = λ texts later. let p = err_from_is_err_and c.from_residual.result c.from_residual.ensures.1 in rw (p.1, p.2)
    (repeat_stuck (item_steps (called_in texts) (IsComputationIn c.args.words texts)) c.args.end (c.begins_item.ensures.0 c.loop-alloc-test.true)
    (c.loop-alloc.invariant.leads texts (later_of c.loop-alloc.strings c.item.new.strings texts c.item.ensures.kept later)) c.in_err-more.field-0.0 (c.in_err-more.ensures.reads texts later))

pub loop-alloc-preserved : goal.loop-alloc-preserved
loop-alloc-preserved c = record {
  leads = λ texts later. repeat_found (item_steps (called_in texts) (IsComputationIn c.args.words texts)) (c.begins_item.ensures.0 c.loop-alloc-test.true)
      (c.loop-alloc.invariant.leads texts (later_of c.loop-alloc.strings c.item.new.strings texts c.item.ensures.kept later)) (c.in_ok-more.ensures.reads texts later);
  owes = λ texts later. owes_first (c.loop-alloc.invariant.owes texts (later_of c.loop-alloc.strings c.item.new.strings texts c.item.ensures.kept later)) c.loop-alloc.invariant.kept c.in_ok-more.behind.now
      (item_found (called_in texts) c.args.words texts (found_in c.loop-alloc.found) (found_in c.in_ok-more.more) _ _ (c.in_ok-more.ensures.reads texts later)) c.in_ok-more.ensures.table;
  kept = gains_more c.loop-alloc.invariant.kept c.item.ensures.kept;
  each = grind (arith, common_steps, c.in_ok-more.ensures.each, c.loop-alloc.invariant.each);
}

pub returns-clause-reads : goal.returns-clause-reads
returns-clause-reads c = λ texts later. repeat_ends (item_steps (called_in texts) (IsComputationIn c.args.words texts)) (λ g. let it_is = c.begins_item.ensures.1 g in cc (c.loop-alloc-test.false)) (c.loop-alloc.invariant.leads texts later)

pub returns-in_err-more-clause-within : goal.returns-in_err-more-clause-within
returns-in_err-more-clause-within c = λ texts later. owes_some (c.loop-alloc.invariant.owes texts (later_of c.loop-alloc.strings c.item.new.strings texts c.item.ensures.kept later)) c.loop-alloc.invariant.kept c.in_err-more.ensures.within

pub returns-clause-table : goal.returns-clause-table
returns-clause-table c = λ texts later. c.loop-alloc.invariant.owes texts later

pub returns-clause-within : goal.returns-clause-within
returns-clause-within c = λ texts later. owes_rest (c.loop-alloc.invariant.owes texts later)
