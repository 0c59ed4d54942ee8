use Rattle.std.proofs.Common.{arith}
use Rattle.flat_grammar.proofs.BitsLemmas.{more_low, more_high}
use Rattle.flat_grammar.proofs.bits.Bits.with.Goals as goal

pub returns-then-k-lt128 : goal.returns-then-k-lt128
returns-then-k-lt128 c = let s = c.self.inside in more_low c.args.self s.low s.high c.with.result c.args.k c.self.view_is c.self.invariant (omega arith) c.if-k-lt128.true c.with.ensures

pub returns-else-k-lt128 : goal.returns-else-k-lt128
returns-else-k-lt128 c = let s = c.self.inside in more_high c.args.self s.low s.high c.with-else-k-lt128.result c.args.k c.self.view_is c.self.invariant c.if-k-lt128.false c.with-else-k-lt128.ensures
