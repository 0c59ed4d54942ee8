use Rattle.std.proofs.Common.{arith, ◌-◌}
use Rattle.induced_deps.specs.Rows.{IsPart}
use Rattle.induced_deps.proofs.RowLemmas.{at_bit}
use Rattle.induced_deps.proofs.row.Row.first_beside.Goals as goal

pub returns-in-Some : goal.returns-in-Some
returns-in-Some c =
    let (small, in_left, least) = c.in-Some.ensures in
    let (is, not) = (c.without.ensures c.in-Some.bit).0 in_left in
    (omega (arith, small, c.loop-k-test.true), (at_bit c.args.self.now.words (7 - c.loop-k.k) c.in-Some.bit small).0 is, λ h. not ((at_bit c.args.other.now.words (7 - c.loop-k.k) c.in-Some.bit small).1 h))

pub returns : goal.returns
unfolding IsPart
returns c = λ i b h. c.loop-k.invariant i b (omega (arith, c.loop-k-test.false)) h
