use Rattle.std.proofs.Common.{[], ◌∷◌, codes, Some, refl, inr, Ok}
use Rattle.lido_top.specs.Calls.{answers}
use Rattle.trials_of_answers.specs.Toy.{Check, first, second}
use Rattle.trials_of_answers.proofs.ToyLemmas.{says, takes_one, takes_none, is_cycle, others, is_empty, empty_alone}
use Rattle.trials_of_answers.proofs.either_cycle_is_right.Goals as goal

pub returns-clause-first : goal.returns-clause-first
returns-clause-first c = answers Check (Some (codes "x")) (says (codes "check" ∷ []) (Ok Check) refl) takes_one (record { is = is_cycle (0 ∷ 1 ∷ 0 ∷ []) first; others = others (0 ∷ 1 ∷ 0 ∷ []) first })

pub returns-clause-second : goal.returns-clause-second
returns-clause-second c = answers Check (Some (codes "x")) (says (codes "check" ∷ []) (Ok Check) refl) takes_one (record { is = is_cycle (1 ∷ 2 ∷ 1 ∷ []) second; others = others (1 ∷ 2 ∷ 1 ∷ []) second })

pub returns-clause-alike : goal.returns-clause-alike
returns-clause-alike c = inr (refl, refl, (0 ∷ 1 ∷ 0 ∷ [], first, refl), (1 ∷ 2 ∷ 1 ∷ [], second, refl))

pub returns-clause-empty : goal.returns-clause-empty
returns-clause-empty c = answers Check (Some []) (says (codes "check" ∷ []) (Ok Check) refl) takes_none (record { is = is_empty; others = empty_alone })
