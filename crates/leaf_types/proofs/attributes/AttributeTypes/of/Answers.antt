use Rattle.std.proofs.Common.{sym, ap, ◌∙◌, Some}
use Rattle.std.proofs.lemmas.Option.{slice_get-get_or}
use Rattle.leaf_types.specs.Tables.{type_of_attribute, OfSome}
use Rattle.leaf_types.specs.Entries.{GivesAttribute}
use Rattle.leaf_types.proofs.MoreLemmas.{more-begin, more-next, more-all, table-of}
use Rattle.leaf_types.proofs.attributes.AttributeTypes.of.Goals as goal

pub loop-row-init : goal.loop-row-init
loop-row-init c = more-begin GivesAttribute c.args.rows.now (type_of_attribute c.new-types.result)

pub loop-row-preserved : goal.loop-row-preserved
loop-row-preserved c =
    more-next GivesAttribute c.args.rows.now c.loop-row.row-index c.row-item.result (type_of_attribute c.new-types.result) (type_of_attribute c.loop-row.types) (type_of_attribute c.set_row.new.self)
    (slice_get-get_or _ _ _ c.loop-row-test.true ∙ ap Some (sym c.row-item.is)) c.loop-row.invariant c.in_ok-set_row.ensures

pub returns : goal.returns
returns c =
    table-of (OfSome GivesAttribute c.args.rows.now) (type_of_attribute c.new-types.result) (type_of_attribute c.loop-row.types) c.new-types.ensures
    (more-all GivesAttribute c.args.rows.now c.loop-row.row-index (type_of_attribute c.new-types.result) (type_of_attribute c.loop-row.types) c.loop-row-test.false c.loop-row.invariant)
