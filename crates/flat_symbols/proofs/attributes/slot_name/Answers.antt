use Rattle.std.proofs.Common.{◌∙◌, ap, sym}
use Rattle.rule_tables.proofs.LaterTexts.{later-text}
use Rattle.flat_symbols.specs.Attributes.{name_text}
use Rattle.flat_symbols.proofs.attributes.slot_name.Goals as goal

pub returns-in_ok-intern-in-Out-clause-name : goal.returns-in_ok-intern-in-Out-clause-name
returns-in_ok-intern-in-Out-clause-name c env below rises gains =
    later-text c.intern.new.self env c.in_ok-intern-in-Out.field-0.0 _ gains c.in_ok-intern-in-Out.ensures.id
    ∙ ap (name_text env c.args.numbers.now.list) (sym c.in-Out.is)
