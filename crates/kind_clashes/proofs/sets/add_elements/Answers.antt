use Rattle.std.proofs.Common.{arith}
use Rattle.std.proofs.lemmas.Option.{slice_get-get_or}
use Rattle.kind_clashes.proofs.NamesLemmas.{more-step, more-end}
use Rattle.kind_clashes.proofs.sets.add_elements.Goals as goal

pub loop-element-preserved : goal.loop-element-preserved
loop-element-preserved c = more-step _ (slice_get-get_or _ _ _ c.loop-element-test.true) c.loop-element.invariant c.in_ok-add_element.ensures

pub returns : goal.returns
returns c = more-end (omega arith) c.loop-element.invariant
