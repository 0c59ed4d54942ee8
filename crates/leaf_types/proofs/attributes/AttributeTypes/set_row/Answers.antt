use Rattle.std.proofs.Common.{subst}
use Rattle.std.proofs.lemmas.Option.{slice_get-get_or}
use Rattle.leaf_types.specs.Tables.{type_of_attribute, OfSome, HasMore}
use Rattle.leaf_types.specs.Entries.{IsAttribute}
use Rattle.leaf_types.proofs.MoreLemmas.{more-begin, more-next, more-all, attribute-set}
use Rattle.leaf_types.proofs.attributes.AttributeTypes.set_row.Goals as goal

pub loop-attr-init : goal.loop-attr-init
loop-attr-init c = more-begin (IsAttribute c.args.row.now.name.0) c.as_slice-attr-items.result.now (type_of_attribute c.args.self.now)

pub loop-attr-preserved : goal.loop-attr-preserved
loop-attr-preserved c =
    more-next (IsAttribute c.args.row.now.name.0) c.as_slice-attr-items.result.now c.loop-attr.attr-index _ (type_of_attribute c.args.self.now) (type_of_attribute c.loop-attr.self) (type_of_attribute c.set.new.self)
    (slice_get-get_or _ _ _ c.loop-attr-test.true) c.loop-attr.invariant (attribute-set _ _ _ (type_of_attribute c.loop-attr.self) (type_of_attribute c.set.new.self) c.in_ok-set.ensures)

pub returns : goal.returns
returns c =
    subst (λ attrs. HasMore (OfSome (IsAttribute c.args.row.now.name.0) attrs) (type_of_attribute c.args.self.now) (type_of_attribute c.loop-attr.self)) c.as_slice-attr-items.ensures
    (more-all (IsAttribute c.args.row.now.name.0) c.as_slice-attr-items.result.now c.loop-attr.attr-index (type_of_attribute c.args.self.now) (type_of_attribute c.loop-attr.self) c.loop-attr-test.false c.loop-attr.invariant)
