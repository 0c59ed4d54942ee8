use Rattle.induced_deps.proofs.WordLemmas.{down_bits, no_bits_down}
use Rattle.induced_deps.proofs.shifts.moved_down.Goals as goal

pub returns-then-by-lt128 : goal.returns-then-by-lt128
returns-then-by-lt128 c = λ k. down_bits c.args.word c.args.by k

pub returns-else-by-lt128 : goal.returns-else-by-lt128
returns-else-by-lt128 c = λ k. no_bits_down c.args.by k c.args.word c.ranges.word.fits c.if-by-lt128.false
