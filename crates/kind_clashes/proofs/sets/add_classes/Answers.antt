use Rattle.std.proofs.Common.{arith, refl}
use Rattle.std.proofs.lemmas.Option.{slice_get_read}
use Rattle.kind_clashes.proofs.NamesLemmas.{more-step, more-end}
use Rattle.kind_clashes.proofs.sets.add_classes.Goals as goal

pub loop-item-preserved : goal.loop-item-preserved
loop-item-preserved c = more-step _ (slice_get_read _ _ _ _ refl c.loop-item-test.true c.item-item.is) c.loop-item.invariant c.in_ok-add_class.ensures

pub returns : goal.returns
returns c = more-end (omega arith) c.loop-item.invariant
