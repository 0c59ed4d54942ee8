use Rattle.std.specs.Prelude.{Contains}
use Rattle.std.proofs.Common.{◌∙◌, subst, sym, inl, inr, length, arith}
use Rattle.std.proofs.lemmas.Option.{slice_get_within}
use Rattle.std.proofs.lemmas.List.{take_all}
use Rattle.visit_sequences.specs.declared.goals.Goal.{Goal}
use Rattle.visit_sequences.specs.Steps.{HasBit}
use Rattle.visit_sequences.proofs.BitsLemmas.{taken-cases}
use Rattle.visit_sequences.proofs.progress.Progress.evaluated_from.Goals as goal

pub returns-clause-all : goal.returns-clause-all
returns-clause-all c =
    let xs = c.args.goals.now in
    λ g m. c.loop-k.invariant g (subst (λ l. Contains l g) (take_all (length xs) xs (omega arith) ∙ sym (take_all c.loop-k.k xs c.loop-k-test.false)) m)

pub returns-clause-stops : goal.returns-clause-stops
returns-clause-stops c = λ g at _. (let l = slice_get_within c.args.goals.now (length c.args.goals.now) g at in omega (arith, l))

pub loop-k-preserved : goal.loop-k-preserved
loop-k-preserved c = λ g m. let yes = c.is_evaluated.ensures.0 c.if-not-is_evaluated.false in elim (taken-cases c.args.goals.now c.loop-k.k c.index-goals-k.result g c.loop-k-test.true m) [
  | inl before ↦ c.loop-k.invariant g before
  | inr e ↦ subst (λ (x : Goal). HasBit c.args.self.now.evaluated.items x.goal) e yes
]
