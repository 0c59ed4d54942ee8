use Rattle.std.proofs.Common.{arith, ◌<◌}
use Rattle.std.proofs.lemmas.Bool.{cases_lt}
use Rattle.std.proofs.Common.{inl, inr}
use Rattle.flat_grammar.proofs.BitsLemmas.{not-above}
use Rattle.induced_deps.proofs.WordLemmas.{below_bits}
use Rattle.induced_deps.proofs.shifts.below.Goals as goal

pub returns-then-place-ge128 : goal.returns-then-place-ge128
returns-then-place-ge128 c = λ k. (
  λ h. elim (cases_lt k 128) [ inl small ↦ (omega (arith, c.if-place-ge128.true), h) | inr past ↦ absurd (not-above c.args.word 128 k c.ranges.word.fits past h) ],
  λ h. h.1,
)

pub returns : goal.returns
returns c = λ k. below_bits c.args.word c.moved_up.result c.moved_down.result c.args.place (let small : c.args.place < 128 = omega (arith, c.if-place-ge128.false) in small) c.moved_up.ensures c.moved_down.ensures k
