use Rattle.std.proofs.Common.{◌<◌, suc, arith, leb-true}
use Rattle.flat_grammar.proofs.BitsLemmas.{not-above}
use Rattle.flat_grammar.proofs.words.has.Goals as goal

pub returns-else-k-lt128 : goal.returns-else-k-lt128
returns-else-k-lt128 c = (
  λ small. let below : c.args.k < 128 = leb-true (suc c.args.k) 128 small in absurd (omega (arith, c.if-k-lt128.false)),
  λ set. absurd (not-above c.args.set 128 c.args.k c.ranges.set.fits c.if-k-lt128.false set),
)
