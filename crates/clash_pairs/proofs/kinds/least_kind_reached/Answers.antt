use Rattle.std.proofs.Common.{arith}
use Rattle.std.proofs.lemmas.Option.{slice_get-get_or}
use Rattle.kind_clashes.proofs.LeastLemmas.{first-step, first-end}
use Rattle.clash_pairs.proofs.kinds.least_kind_reached.Goals as goal

pub loop-one-preserved : goal.loop-one-preserved
loop-one-preserved c = first-step _ (slice_get-get_or _ _ _ c.loop-one-test.true) c.earlier-least.ensures c.loop-one.invariant c.if_kind_reached.ensures

pub returns : goal.returns
returns c = first-end (omega arith) c.loop-one.invariant
