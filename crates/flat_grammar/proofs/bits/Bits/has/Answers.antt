use Rattle.flat_grammar.proofs.BitsLemmas.{iff_then, low_bits, high_bits}
use Rattle.flat_grammar.proofs.bits.Bits.has.Goals as goal

pub returns-then-k-lt128 : goal.returns-then-k-lt128
returns-then-k-lt128 c = let s = c.self.inside in iff_then c.has.ensures (low_bits c.args.self s.low s.high c.args.k c.self.view_is c.if-k-lt128.true)

pub returns-else-k-lt128 : goal.returns-else-k-lt128
returns-else-k-lt128 c = let s = c.self.inside in iff_then c.has-else-k-lt128.ensures (high_bits c.args.self s.low s.high c.args.k c.self.view_is c.self.invariant c.if-k-lt128.false)
