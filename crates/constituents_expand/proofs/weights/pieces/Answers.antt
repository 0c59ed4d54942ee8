use Rattle.std.proofs.Common.{◌∙◌, ◌++◌, map, ap, take_all}
use Rattle.constituents_expand.specs.Weights.{read_of, null_if}
use Rattle.constituents_expand.proofs.weights.pieces.Goals as goal

pub returns : goal.returns
returns c = c.in_ok-push_end.ensures
    ∙ ap (λ l. l ++ null_if c.args.end) (c.loop-slot.invariant ∙ (λ i. c.in_ok-pieces.ensures i ++ map read_of (take_all c.loop-slot.slot-index c.args.below.now c.loop-slot-test.false i)))
