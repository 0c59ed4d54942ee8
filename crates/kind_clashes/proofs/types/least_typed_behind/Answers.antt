use Rattle.std.proofs.Common.{arith}
use Rattle.std.proofs.lemmas.Option.{slice_get-get_or}
use Rattle.kind_clashes.proofs.LeastLemmas.{first-step, first-end}
use Rattle.kind_clashes.proofs.types.least_typed_behind.Goals as goal

pub loop-one-preserved : goal.loop-one-preserved
loop-one-preserved c = first-step _ (slice_get-get_or _ _ _ c.loop-one-test.true) c.earlier-least.ensures c.loop-one.invariant c.if_typed_behind.ensures

pub returns : goal.returns
returns c = first-end (omega arith) c.loop-one.invariant
