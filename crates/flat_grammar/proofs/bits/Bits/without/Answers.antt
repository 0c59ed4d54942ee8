use Rattle.std.proofs.Common.{arith}
use Rattle.std.specs.Prelude.{IsBitSet}
use Rattle.flat_grammar.proofs.BitsLemmas.{iff_then, iff_without, by_halves, low_bits, high_bits}
use Rattle.flat_grammar.proofs.bits.Bits.without.Goals as goal

pub returns : goal.returns
returns c =
    let s = c.self.inside in
    let o = c.other.inside in
    by_halves c.without.result c.without-2.result (λ j. IsBitSet c.args.self j × (IsBitSet c.args.other j → ⊥)) (omega arith)
    (λ j b. iff_then (c.without.ensures j) (iff_without (low_bits c.args.self s.low s.high j c.self.view_is b) (low_bits c.args.other o.low o.high j c.other.view_is b)))
    (λ j a. iff_then (c.without-2.ensures _) (iff_without (high_bits c.args.self s.low s.high j c.self.view_is c.self.invariant a) (high_bits c.args.other o.low o.high j c.other.view_is c.other.invariant a)))
