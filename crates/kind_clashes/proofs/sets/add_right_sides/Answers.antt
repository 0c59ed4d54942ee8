use Rattle.std.proofs.Common.{arith, refl}
use Rattle.std.proofs.lemmas.Option.{slice_get_read}
use Rattle.kind_clashes.proofs.NamesLemmas.{more-step, more-end, more-at}
use Rattle.kind_clashes.proofs.sets.add_right_sides.Goals as goal

pub loop-rule-preserved : goal.loop-rule-preserved
loop-rule-preserved c = more-step _ (slice_get_read _ _ _ _ refl c.loop-rule-test.true c.rule-item.is) c.loop-rule.invariant (more-at c.as_slice.ensures c.in_ok-add_elements.ensures)

pub returns : goal.returns
returns c = more-end (omega arith) c.loop-rule.invariant
