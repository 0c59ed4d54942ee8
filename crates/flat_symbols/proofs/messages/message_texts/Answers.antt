use Rattle.lido_syntax.specs.declared.spec.Severity.TheVariants.{Note, Warning, Error}
use Rattle.rule_tables.specs.Copies.{label, line_feed}
use Rattle.rule_tables.proofs.LaterTexts.{more-again, added-text}
use Rattle.flat_symbols.specs.declared.messages.MessageTexts.{MessageTexts}
use Rattle.flat_symbols.specs.Messages.{IsIdOf, id_for}
use Rattle.flat_symbols.proofs.TextLemmas.{added-id}
use Rattle.flat_symbols.proofs.messages.message_texts.Goals as goal

pub returns-clause-texts : goal.returns-clause-texts
returns-clause-texts c env gains =
    let first = c.intern.new.self in
    let second = c.intern-2.new.self in
    let third = c.intern-3.new.self in
    let last = c.intern-4.new.self in
    let from_third = more-again third last env.texts (added-text third last line_feed c.in_ok-line_feed.ensures.texts) gains in
    let from_second = more-again second third env.texts (added-text second third (label Error) c.in_ok-error.ensures.texts) from_third in
    let from_first = more-again first second env.texts (added-text first second (label Warning) c.in_ok-warning.ensures.texts) from_second in
    let texts : MessageTexts = record {
      note = c.in_ok-note.note;
      warning = c.in_ok-warning.warning;
      error = c.in_ok-error.error;
      line_feed =
          c.in_ok-line_feed.line_feed;
    } in
    record {
      labels = λ severity. elim severity as (λ s. IsIdOf env (label s) (id_for texts s)) [
        | Note ↦ added-id first env texts.note.0 (label Note) c.in_ok-note.ensures.distinct c.in_ok-note.ensures.id from_first
        | Warning ↦ added-id second env texts.warning.0 (label Warning) c.in_ok-warning.ensures.distinct c.in_ok-warning.ensures.id from_second
        | Error ↦ added-id third env texts.error.0 (label Error) c.in_ok-error.ensures.distinct c.in_ok-error.ensures.id from_third
      ];
      line_feed = added-id last env texts.line_feed.0 line_feed c.in_ok-line_feed.ensures.distinct c.in_ok-line_feed.ensures.id gains;
    }
