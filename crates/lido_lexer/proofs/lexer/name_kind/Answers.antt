use Rattle.std.proofs.Common.{sym}
use Rattle.std.proofs.lemmas.Option.{slice_get_within}
use Rattle.lido_base.proofs.TextsLemmas.{interned_none, text_added}
use Rattle.lido_lexer.proofs.lexer.name_kind.Goals as goal

pub returns-in-Some-clause-table : goal.returns-in-Some-clause-table
returns-in-Some-clause-table c = sym (interned_none c.args.strings.now)

pub returns-in-Ok-clause-text : goal.returns-in-Ok-clause-text
returns-in-Ok-clause-text c = slice_get_within c.intern.new.strings c.in-Ok.id.0 c.args.name.now c.in-Ok.ensures.text

pub returns-in-Ok-clause-table : goal.returns-in-Ok-clause-table
returns-in-Ok-clause-table c = text_added c.args.strings.now c.intern.new.strings c.in-Ok.id.0 c.args.name.now c.in-Ok.ensures.text c.in-Ok.ensures.table
