use Rattle.std.proofs.Common.{arith}
use Rattle.std.proofs.lemmas.Option.{slice_get-get_or}
use Rattle.kind_clashes.proofs.LeastLemmas.{first-begin, first-step, first-end}
use Rattle.table_faults.proofs.doubles.least_later.Goals as goal

pub loop-computed-init : goal.loop-computed-init
loop-computed-init c = first-begin

pub loop-computed-preserved : goal.loop-computed-preserved
loop-computed-preserved c = first-step _ (slice_get-get_or _ _ _ c.loop-computed-test.true) c.earlier-least.ensures c.loop-computed.invariant c.if_later.ensures

pub returns : goal.returns
returns c = first-end (omega arith) c.loop-computed.invariant
