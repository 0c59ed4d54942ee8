use Rattle.std.proofs.Common.{sym, ap, ◌∙◌, Some}
use Rattle.std.proofs.lemmas.Option.{slice_get-get_or}
use Rattle.leaf_types.specs.Tables.{type_of_name, OfSome}
use Rattle.leaf_types.specs.Entries.{GivesTerminal}
use Rattle.leaf_types.proofs.MoreLemmas.{more-begin, more-next, more-all, table-of}
use Rattle.leaf_types.proofs.names.NameTypes.of_terminals.Goals as goal

pub loop-row-init : goal.loop-row-init
loop-row-init c = more-begin GivesTerminal c.args.rows.now (type_of_name c.new-types.result)

pub loop-row-preserved : goal.loop-row-preserved
loop-row-preserved c =
    more-next GivesTerminal c.args.rows.now c.loop-row.row-index c.row-item.result (type_of_name c.new-types.result) (type_of_name c.loop-row.types) (type_of_name c.set_terminal.new.self)
    (slice_get-get_or _ _ _ c.loop-row-test.true ∙ ap Some (sym c.row-item.is)) c.loop-row.invariant c.in_ok-set_terminal.ensures

pub returns : goal.returns
returns c =
    table-of (OfSome GivesTerminal c.args.rows.now) (type_of_name c.new-types.result) (type_of_name c.loop-row.types) c.new-types.ensures
    (more-all GivesTerminal c.args.rows.now c.loop-row.row-index (type_of_name c.new-types.result) (type_of_name c.loop-row.types) c.loop-row-test.false c.loop-row.invariant)
