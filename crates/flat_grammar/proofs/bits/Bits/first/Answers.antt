use Rattle.flat_grammar.proofs.BitsLemmas.{first_low, first_high, none_halves}
use Rattle.flat_grammar.proofs.bits.Bits.first.Goals as goal

pub returns-in-Some : goal.returns-in-Some
returns-in-Some c = let s = c.self.inside in let e = c.in-Some.ensures in first_low c.args.self s.low s.high c.in-Some.k c.self.view_is e.0 e.1 e.2

pub returns-in-Some-first : goal.returns-in-Some-first
returns-in-Some-first c = let s = c.self.inside in let e = c.in-Some-first.ensures in first_high c.args.self s.low s.high c.in-Some-first.k c.self.view_is c.self.invariant c.in_default.ensures e.0 e.1 e.2

pub returns-in-None : goal.returns-in-None
returns-in-None c = let s = c.self.inside in none_halves c.args.self s.low s.high c.self.view_is c.self.invariant c.in_default.ensures c.in-None.ensures
