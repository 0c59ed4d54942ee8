use Rattle.std.proofs.Common.{inl, inr, arith}
use Rattle.std.proofs.lemmas.Bool.{cases_lt}
use Rattle.visit_sequences.proofs.rest.all_children.Goals as goal

pub loop-k-preserved : goal.loop-k-preserved
loop-k-preserved c = λ j pos h. elim (cases_lt c.loop-k.k j) [
  | inl l ↦ c.in_ok-list.ensures j (inr (omega (arith, l, h)))
  | inr g ↦ c.in_ok-list.ensures j (inl (c.loop-k.invariant j pos g))
]

pub loop-k-init : goal.loop-k-init
loop-k-init c = λ j pos h. absurd (omega (arith, pos, h))

pub returns : goal.returns
returns c = λ j pos h. c.loop-k.invariant j pos (let e = c.len-k-end.ensures in omega (arith, h, e))
