use Rattle.std.proofs.Common.{true, ◌≡◌}
use Rattle.flat_grammar.proofs.BitsLemmas.{within_halves, low_within, high_within}
use Rattle.flat_grammar.proofs.bits.Bits.is_within.Goals as goal

pub returns-then-is_within : goal.returns-then-is_within
returns-then-is_within c = let s = c.self.inside in let o = c.other.inside in (
  λ yes. within_halves c.args.self s.low s.high c.args.other o.low o.high c.self.view_is c.self.invariant c.other.view_is c.other.invariant (c.is_within.ensures.0 c.if-is_within.true) (c.is_within-then-is_within.ensures.0 yes),
  λ all. c.is_within-then-is_within.ensures.1 (high_within c.args.self s.low s.high c.args.other o.low o.high c.self.view_is c.self.invariant c.other.view_is c.other.invariant all),
)

pub returns-else-is_within : goal.returns-else-is_within
returns-else-is_within c = let s = c.self.inside in let o = c.other.inside in (
  λ yes. (let h : c.is_within.result ≡ true = yes in absurd (cc)),
  λ all. c.is_within.ensures.1 (low_within c.args.self s.low s.high c.args.other o.low o.high c.self.view_is c.self.invariant c.other.view_is all),
)
