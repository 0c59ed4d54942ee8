use Rattle.std.specs.Prelude.{Result, Ok, Err, IfOk}
use Rattle.std.proofs.Common.{subst, sym}
use Rattle.lido_computations.specs.Messages.{IsComputationIn}
use Rattle.lido_computations.specs.Phrases.{ReadsSeen}
use Rattle.lido_lexer.proofs.Reading.{gains_more}
use Rattle.lido_reader.specs.Found.{found_in}
use Rattle.lido_reader.specs.Items.{IsFurtherItem, Repeats, begins_item, called_in, no_items}
use Rattle.lido_reader.proofs.TextsLemmas.{later_of}
use Rattle.lido_reader.proofs.AddedLemmas.{kept_some, kept_then_some, kept_then_owes}
use Rattle.lido_reader.proofs.specification.read_items.Goals as goal

pub returns-clause-reads : goal.returns-clause-reads
returns-clause-reads c = λ texts later.
    let words = c.in_ok-words.ensures.words texts (later_of c.message_words.new.strings c.items.new.strings texts c.items.ensures.kept later) in
    subst (λ z. ReadsSeen found_in (Repeats (IsFurtherItem (called_in texts) (IsComputationIn z texts)) (no_items, 0)) begins_item c.args.end c.args.tokens.now c.items.result) (sym words) (c.items.ensures.reads texts later)

pub returns-clause-kept : goal.returns-clause-kept
returns-clause-kept c = gains_more c.message_words.ensures.kept c.items.ensures.kept

pub returns-clause-within : goal.returns-clause-within
returns-clause-within c = λ texts later. kept_then_some c.message_words.ensures.same (c.items.ensures.within texts later)

pub returns-in_err-words-clause-within : goal.returns-in_err-words-clause-within
returns-in_err-words-clause-within c = λ texts later. kept_some c.message_words.ensures.same

mapped : {X F : Type 0} (r : Result X F) (P Q : X → Type 0) → ((x : X) → P x → Q x) → IfOk r P → IfOk r Q
mapped (Ok x) P Q f p = f x p
mapped (Err e) P Q f p = tt

pub returns-clause-table : goal.returns-clause-table
returns-clause-table c = mapped c.items.result _ _ (λ x p texts later. kept_then_owes c.message_words.ensures.same (p texts later)) c.items.ensures.table
