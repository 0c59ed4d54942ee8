use Rattle.std.proofs.Common.{sym}
use Rattle.std.proofs.lemmas.Option.{slice_get_within}
use Rattle.lido_base.proofs.TextsLemmas.{interned_none, text_added}
use Rattle.lido_lexer.proofs.lexer.token_kind.Goals as goal

pub returns-in-Int-clause-table : goal.returns-in-Int-clause-table
returns-in-Int-clause-table c = sym (interned_none c.args.strings.now)

pub returns-in-Sign-clause-table : goal.returns-in-Sign-clause-table
returns-in-Sign-clause-table c = sym (interned_none c.args.strings.now)

pub returns-in-Ok-clause-text : goal.returns-in-Ok-clause-text
returns-in-Ok-clause-text c = slice_get_within c.intern.new.strings c.in-Ok.id.0 _ c.in-Ok.ensures.text

pub returns-in-Ok-clause-table : goal.returns-in-Ok-clause-table
returns-in-Ok-clause-table c = text_added c.args.strings.now c.intern.new.strings c.in-Ok.id.0 _ c.in-Ok.ensures.text c.in-Ok.ensures.table

pub returns-in-Ok-intern-clause-text : goal.returns-in-Ok-intern-clause-text
returns-in-Ok-intern-clause-text c = slice_get_within c.intern-in-Str.new.strings c.in-Ok-intern.id.0 _ c.in-Ok-intern.ensures.text

pub returns-in-Ok-intern-clause-table : goal.returns-in-Ok-intern-clause-table
returns-in-Ok-intern-clause-table c = text_added c.args.strings.now c.intern-in-Str.new.strings c.in-Ok-intern.id.0 _ c.in-Ok-intern.ensures.text c.in-Ok-intern.ensures.table
