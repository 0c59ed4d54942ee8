use Rattle.visit_sequences.proofs.BitsLemmas.{members-step, members-all}
use Rattle.visit_sequences.proofs.bits.members.Goals as goal

pub loop-attr-preserved : goal.loop-attr-preserved
loop-attr-preserved c = members-step c.args.attrs.now c.loop-attr.attr-index _ c.loop-attr.set c.with_small-set.result c.loop-attr-test.true c.loop-attr.invariant c.with_small-set.ensures

pub returns : goal.returns
returns c = members-all c.args.attrs.now c.loop-attr.attr-index c.loop-attr.set c.loop-attr-test.false c.loop-attr.invariant
