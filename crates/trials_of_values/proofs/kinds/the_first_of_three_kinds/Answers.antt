use Rattle.std.proofs.Common.{◌≤◌, inl, inr, [], ◌∷◌, ◌+◌, ℕ, arith, refl}
use Rattle.lido_base.specs.Faults.{First, AtPlace, IsLeastPlace}
use Rattle.trials_of_values.specs.Kinds.{nothing, spots, nine}
use Rattle.trials_of_values.proofs.kinds.the_first_of_three_kinds.Goals as goal

pub returns-clause-not_least : goal.returns-clause-not_least
returns-clause-not_least c = λ p. let low = p.least 5 (inr refl) in omega arith

least : (other : ℕ) → spots other → 5 ≤ other
least other (inl e) = omega arith
least other (inr e) = omega arith

at_five : IsLeastPlace spots 5
at_five = record { there = inr refl; least = least }

pub returns-clause-first : goal.returns-clause-first
returns-clause-first c = inr ((λ g h. h), inl (5, at_five, refl))

third : First (nothing ∷ AtPlace (λ at. at + 100) spots ∷ nine ∷ []) 9 → ⊥
third (inl empty) = absurd empty
third (inr (none, inl (at, place, made))) = omega arith
third (inr (none, inr (passed, later))) = passed 105 (5, at_five, refl)

pub returns-clause-not_the_third : goal.returns-clause-not_the_third
returns-clause-not_the_third c = third
