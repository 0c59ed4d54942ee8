use Rattle.std.proofs.Common.{arith}
use Rattle.std.proofs.lemmas.Option.{slice_get-get_or}
use Rattle.kind_clashes.proofs.LeastLemmas.{first-step, first-end}
use Rattle.kind_clashes.proofs.symbols.least_element_in.Goals as goal

pub loop-element-preserved : goal.loop-element-preserved
loop-element-preserved c = first-step _ (slice_get-get_or _ _ _ c.loop-element-test.true) c.earlier-least.ensures c.loop-element.invariant c.element_in.ensures

pub returns : goal.returns
returns c = first-end (omega arith) c.loop-element.invariant
