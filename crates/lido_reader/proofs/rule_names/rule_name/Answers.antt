use Rattle.std.proofs.Common.{sym, ap, ◌∙◌}
use Rattle.lido_reader.specs.Items.{called_in}
use Rattle.lido_lexer.specs.Tables.{interned}
use Rattle.lido_reader.proofs.NamesOfRulesLemmas.{named, unnamed}
use Rattle.lido_lexer.proofs.TablesLemmas.{interned_none, interned_one}
use Rattle.lido_reader.proofs.AddedLemmas.{called_named, called_unnamed}
use Rattle.lido_reader.proofs.rule_names.rule_name.Goals as goal

pub returns-in-Some-clause-reads : goal.returns-in-Some-clause-reads
returns-in-Some-clause-reads c = λ texts later. named (called_in texts) c.args.number c.args.at c.args.tokens.now c.in-Some.rest.now c.in-Some.name c.in-Some.ensures.seen

pub returns-clause-reads : goal.returns-clause-reads
returns-clause-reads c = λ texts later. unnamed (called_in texts) c.args.number c.args.at c.in_ok-id.id c.args.tokens.now (c.in_ok-id.ensures.id texts later) c.in_default.ensures.seen

pub returns-in-Some-clause-table : goal.returns-in-Some-clause-table
returns-in-Some-clause-table c = sym (interned_none _) ∙ ap (interned c.args.strings.now) (sym (called_named c.args.number _ _ _ c.in-Some.ensures.seen))

pub returns-clause-table : goal.returns-clause-table
returns-clause-table c = c.in_ok-id.ensures.table ∙ sym (interned_one _ _) ∙ ap (interned c.args.strings.now) (sym (called_unnamed c.args.number _ c.in_default.ensures.seen))
