use Rattle.std.proofs.Common.{arith, refl}
use Rattle.std.proofs.lemmas.Option.{slice_get_read}
use Rattle.kind_clashes.proofs.LeastLemmas.{first-step, first-end}
use Rattle.kind_clashes.proofs.items.own_in_body.Goals as goal

pub loop-comp-preserved : goal.loop-comp-preserved
loop-comp-preserved c = first-step _ (slice_get_read _ _ _ _ refl c.loop-comp-test.true c.comp-item.is) c.earlier-least.ensures c.loop-comp.invariant c.in_ok-own_in_comp.ensures

pub returns : goal.returns
returns c = first-end (omega arith) c.loop-comp.invariant
