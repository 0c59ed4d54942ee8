use Rattle.std.proofs.Common.{◌∙◌, ◌++◌, take_all}
use Rattle.constituents_expand.proofs.weights.needed.Goals as goal

pub returns : goal.returns
returns c = c.loop-slot.invariant ∙ (λ i. c.in_ok-slots.ensures i ++ take_all c.loop-slot.slot-index c.args.below.now c.loop-slot-test.false i)
