use Rattle.std.proofs.Common.{sym, ap, ◌∙◌, Some}
use Rattle.std.proofs.lemmas.Option.{slice_get-get_or}
use Rattle.leaf_types.specs.Tables.{type_of_attribute, OfSome}
use Rattle.leaf_types.specs.Uneven.{IsOtherOnHeir}
use Rattle.leaf_types.proofs.MoreLemmas.{more-begin, more-next, more-all, table-of}
use Rattle.leaf_types.proofs.uneven.uneven_attributes.Goals as goal

pub loop-row-init : goal.loop-row-init
loop-row-init c = more-begin (IsOtherOnHeir c.args.types.now c.args.heirs.now c.args.rows.now) c.args.rows.now (type_of_attribute c.new-uneven.result)

pub loop-row-preserved : goal.loop-row-preserved
loop-row-preserved c =
    more-next (IsOtherOnHeir c.args.types.now c.args.heirs.now c.args.rows.now) c.args.rows.now c.loop-row.row-index c.row-item.result (type_of_attribute c.new-uneven.result) (type_of_attribute c.loop-row.uneven) (type_of_attribute c.note_heir.new.uneven)
    (slice_get-get_or _ _ _ c.loop-row-test.true ∙ ap Some (sym c.row-item.is)) c.loop-row.invariant c.in_ok-note_heir.ensures

pub returns : goal.returns
returns c =
    table-of (OfSome (IsOtherOnHeir c.args.types.now c.args.heirs.now c.args.rows.now) c.args.rows.now) (type_of_attribute c.new-uneven.result) (type_of_attribute c.loop-row.uneven) c.new-uneven.ensures
    (more-all (IsOtherOnHeir c.args.types.now c.args.heirs.now c.args.rows.now) c.args.rows.now c.loop-row.row-index (type_of_attribute c.new-uneven.result) (type_of_attribute c.loop-row.uneven) c.loop-row-test.false c.loop-row.invariant)
