use Rattle.lido_lexer.proofs.Reading.{gains_more}
use Rattle.lido_reader.proofs.TextsLemmas.{later_of}
use Rattle.lido_reader.proofs.known_words.message_words.Goals as goal

pub returns-in_err-error-clause-kept : goal.returns-in_err-error-clause-kept
returns-in_err-error-clause-kept c = gains_more (gains_more (gains_more c.word_id.ensures.kept c.word_id-2.ensures.kept) c.word_id-3.ensures.kept) c.word_id-4.ensures.kept

pub returns-in_err-coordref-clause-kept : goal.returns-in_err-coordref-clause-kept
returns-in_err-coordref-clause-kept c = gains_more (gains_more (gains_more (gains_more c.word_id.ensures.kept c.word_id-2.ensures.kept) c.word_id-3.ensures.kept) c.word_id-4.ensures.kept) c.word_id-5.ensures.kept

pub returns-clause-kept : goal.returns-clause-kept
returns-clause-kept c = gains_more (gains_more (gains_more (gains_more c.word_id.ensures.kept c.word_id-2.ensures.kept) c.word_id-3.ensures.kept) c.word_id-4.ensures.kept) c.word_id-5.ensures.kept

pub returns-clause-words : goal.returns-clause-words
returns-clause-words c = λ texts later.
    let fourth = later_of c.word_id-4.new.strings c.word_id-5.new.strings texts c.word_id-5.ensures.kept later in
    let third = later_of c.word_id-3.new.strings c.word_id-4.new.strings texts c.word_id-4.ensures.kept fourth in
    let second = later_of c.word_id-2.new.strings c.word_id-3.new.strings texts c.word_id-3.ensures.kept third in
    let first = later_of c.word_id.new.strings c.word_id-2.new.strings texts c.word_id-2.ensures.kept second in
    let message = c.in_ok-message.ensures.id texts first in
    let note = c.in_ok-note.ensures.id texts second in
    let warning = c.in_ok-warning.ensures.id texts third in
    let error = c.in_ok-error.ensures.id texts fourth in
    let coordref = c.in_ok-coordref.ensures.id texts later in
    λ j. record { message = message j; note = note j; warning = warning j; error = error j; coordref = coordref j }
