use Rattle.std.proofs.Common.{arith, refl}
use Rattle.std.proofs.lemmas.Option.{slice_get_read}
use Rattle.kind_clashes.proofs.LeastLemmas.{first-begin, first-step, first-end}
use Rattle.table_faults.proofs.doubles.double_in_items.Goals as goal

pub loop-item-init : goal.loop-item-init
loop-item-init c = first-begin

pub loop-item-preserved : goal.loop-item-preserved
loop-item-preserved c = first-step _ (slice_get_read _ _ _ _ refl c.loop-item-test.true c.item-item.is) c.earlier-least.ensures c.loop-item.invariant c.in_ok-double_in_item.ensures

pub returns : goal.returns
returns c = first-end (omega arith) c.loop-item.invariant
