use Rattle.std.proofs.Common.{sym, ◌∙◌}
use Rattle.leaf_types.specs.Tables.{type_of_attribute, OfSome}
use Rattle.leaf_types.specs.Uneven.{IsOther, IsOtherOnClass}
use Rattle.leaf_types.proofs.MoreLemmas.{more-same}
use Rattle.leaf_types.proofs.uneven.note_class.Goals as goal

pub returns-in_ok-note_attributes : goal.returns-in_ok-note_attributes
returns-in_ok-note_attributes c =
    more-same (OfSome (IsOther c.args.types.now c.args.heir.0 c.args.row.now.name.0) c.args.row.now.attrs) (IsOtherOnClass c.args.types.now c.args.heirs.now c.args.heir.0 c.args.row.now)
    (type_of_attribute c.args.uneven.now) (type_of_attribute c.note_attributes.new.uneven)
    (λ k ty h. (sym c.inherits.ensures ∙ c.if-inherits.true, h)) (λ k ty h. h.1) c.in_ok-note_attributes.ensures
