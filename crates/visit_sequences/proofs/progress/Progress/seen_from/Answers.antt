use Rattle.std.specs.Prelude.{Contains}
use Rattle.std.proofs.Common.{◌∙◌, subst, sym, inl, inr, length, arith}
use Rattle.std.proofs.lemmas.Option.{slice_get_within}
use Rattle.std.proofs.lemmas.List.{take_all}
use Rattle.visit_sequences.specs.Steps.{HasBit}
use Rattle.visit_sequences.proofs.BitsLemmas.{taken-cases}
use Rattle.visit_sequences.proofs.progress.Progress.seen_from.Goals as goal

pub loop-k-preserved : goal.loop-k-preserved
loop-k-preserved c = λ u m. let yes = c.is_at_hand.ensures.0 c.if-not-is_at_hand.false in elim (taken-cases c.args.direct.now c.loop-k.k _ u c.loop-k-test.true m) [
  | inl before ↦ c.loop-k.invariant u before
  | inr e ↦ subst (λ o. HasBit c.args.self.now.at_hand.items o) e yes
]

pub returns-clause-seen : goal.returns-clause-seen
returns-clause-seen c =
    let xs = c.args.direct.now in
    λ u m. c.loop-k.invariant u (subst (λ l. Contains l u) (take_all (length xs) xs (omega arith) ∙ sym (take_all c.loop-k.k xs c.loop-k-test.false)) m)

pub returns-clause-stops : goal.returns-clause-stops
returns-clause-stops c = λ u at _. (let l = slice_get_within c.args.direct.now (length c.args.direct.now) u at in omega (arith, l))
