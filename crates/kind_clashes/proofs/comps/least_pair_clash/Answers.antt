use Rattle.std.proofs.Common.{arith}
use Rattle.std.proofs.lemmas.Option.{slice_get-get_or}
use Rattle.kind_clashes.proofs.LeastLemmas.{first-step, first-end}
use Rattle.kind_clashes.proofs.comps.least_pair_clash.Goals as goal

pub loop-pair-preserved : goal.loop-pair-preserved
loop-pair-preserved c = first-step _ (slice_get-get_or _ _ _ c.loop-pair-test.true) c.earlier-least.ensures c.loop-pair.invariant c.pair_clash.ensures

pub returns : goal.returns
returns c = first-end (omega arith) c.loop-pair.invariant
