use Rattle.std.proofs.Common.{subst}
use Rattle.std.proofs.lemmas.Option.{slice_get-get_or}
use Rattle.leaf_types.specs.Tables.{type_of_attribute, OfSome, HasMore}
use Rattle.leaf_types.specs.Uneven.{IsOther}
use Rattle.leaf_types.proofs.MoreLemmas.{more-begin, more-next, more-all}
use Rattle.leaf_types.proofs.uneven.note_attributes.Goals as goal

pub loop-attr-init : goal.loop-attr-init
loop-attr-init c = more-begin (IsOther c.args.types.now c.args.heir.0 c.args.row.now.name.0) c.as_slice-attr-items.result.now (type_of_attribute c.args.uneven.now)

pub loop-attr-preserved : goal.loop-attr-preserved
loop-attr-preserved c =
    more-next (IsOther c.args.types.now c.args.heir.0 c.args.row.now.name.0) c.as_slice-attr-items.result.now c.loop-attr.attr-index _ (type_of_attribute c.args.uneven.now) (type_of_attribute c.loop-attr.uneven) (type_of_attribute c.note_attribute.new.uneven)
    (slice_get-get_or _ _ _ c.loop-attr-test.true) c.loop-attr.invariant c.in_ok-note_attribute.ensures

pub returns : goal.returns
returns c =
    subst (λ attrs. HasMore (OfSome (IsOther c.args.types.now c.args.heir.0 c.args.row.now.name.0) attrs) (type_of_attribute c.args.uneven.now) (type_of_attribute c.loop-attr.uneven)) c.as_slice-attr-items.ensures
    (more-all (IsOther c.args.types.now c.args.heir.0 c.args.row.now.name.0) c.as_slice-attr-items.result.now c.loop-attr.attr-index (type_of_attribute c.args.uneven.now) (type_of_attribute c.loop-attr.uneven) c.loop-attr-test.false c.loop-attr.invariant)
