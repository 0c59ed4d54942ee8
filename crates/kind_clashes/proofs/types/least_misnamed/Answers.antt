use Rattle.std.proofs.Common.{arith}
use Rattle.std.proofs.lemmas.Option.{slice_get-get_or}
use Rattle.kind_clashes.proofs.LeastLemmas.{first-step, first-end}
use Rattle.kind_clashes.proofs.types.least_misnamed.Goals as goal

pub loop-term-preserved : goal.loop-term-preserved
loop-term-preserved c = first-step _ (slice_get-get_or _ _ _ c.loop-term-test.true) c.earlier-least.ensures c.loop-term.invariant c.misnamed.ensures

pub returns : goal.returns
returns c = first-end (omega arith) c.loop-term.invariant
