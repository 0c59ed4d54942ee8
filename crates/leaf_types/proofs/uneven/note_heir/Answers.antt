use Rattle.leaf_types.specs.Tables.{type_of_attribute, OfSome}
use Rattle.leaf_types.specs.Uneven.{IsOtherOnClass, IsOtherOnHeir}
use Rattle.leaf_types.proofs.MoreLemmas.{more-same}
use Rattle.leaf_types.proofs.uneven.note_heir.Goals as goal

pub returns-in_ok-note_classes : goal.returns-in_ok-note_classes
returns-in_ok-note_classes c =
    more-same (OfSome (IsOtherOnClass c.args.types.now c.args.heirs.now c.args.row.now.name.0) c.args.rows.now) (IsOtherOnHeir c.args.types.now c.args.heirs.now c.args.rows.now c.args.row.now)
    (type_of_attribute c.args.uneven.now) (type_of_attribute c.note_classes.new.uneven)
    (λ k ty h. (c.in-Nonterminal.is, h)) (λ k ty h. h.1) c.in_ok-note_classes.ensures
