use Rattle.std.proofs.Common.{arith}
use Rattle.std.proofs.lemmas.Option.{slice_get-get_or}
use Rattle.kind_clashes.proofs.LeastLemmas.{first-step, first-end}
use Rattle.kind_clashes.proofs.firsts.least_behind.Goals as goal

pub loop-name-preserved : goal.loop-name-preserved
loop-name-preserved c = first-step _ (slice_get-get_or _ _ _ c.loop-name-test.true) c.earlier-least.ensures c.loop-name.invariant c.if_behind.ensures

pub returns : goal.returns
returns c = first-end (omega arith) c.loop-name.invariant
