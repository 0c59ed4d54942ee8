use Rattle.flat_grammar.proofs.ListedLemmas.{set-of-none, set-of-more}
use Rattle.flat_grammar.proofs.bits.Bits.of.Goals as goal

pub loop-attr-init : goal.loop-attr-init
loop-attr-init c = set-of-none c.empty-set.result c.empty-set.ensures

pub loop-attr-preserved : goal.loop-attr-preserved
loop-attr-preserved c = set-of-more c.loop-attr.set c.with-set.result c.args.attrs.now c.loop-attr.attr-index _ c.loop-attr-test.true c.loop-attr.invariant c.with-set.ensures
