use Rattle.std.specs.Prelude.{◌<◌, [], ◌∷◌, ℕ, List, length}
use Rattle.std.proofs.Common.{inl, inr, refl, arith}
use Rattle.lido_base.specs.Reach.{IsNotBehind, IsNoLater}
use Rattle.trials_of_values.proofs.graphs.the_least_path.Goals as goal

behind : IsNotBehind (0 ∷ 2 ∷ 3 ∷ []) (0 ∷ 1 ∷ 3 ∷ []) → ⊥
behind (inl h) = omega arith
behind (inr (h, inl g)) = omega arith
behind (inr (h, inr (g, rest))) = omega arith

over_two : IsNoLater (0 ∷ 2 ∷ 3 ∷ []) (0 ∷ 1 ∷ 3 ∷ []) → ⊥
over_two (inl h) = omega arith
over_two (inr (h, rest)) = behind rest

pub returns-clause-not_behind : goal.returns-clause-not_behind
returns-clause-not_behind c = λ p. over_two (p.first (0 ∷ 1 ∷ 3 ∷ []) (refl, (refl, (refl, refl))))

longer : (xs ys : List ℕ) → length ys < length xs → IsNoLater xs ys → ⊥
longer xs ys h (inl less) = omega arith
longer xs ys h (inr (same, rest)) = omega arith

pub returns-clause-not_longer : goal.returns-clause-not_longer
returns-clause-not_longer c = λ p. longer (0 ∷ 4 ∷ 1 ∷ 3 ∷ []) (0 ∷ 1 ∷ 3 ∷ []) (omega arith) (p.first (0 ∷ 1 ∷ 3 ∷ []) (refl, (refl, (refl, refl))))

pub returns-clause-not_from_zero : goal.returns-clause-not_from_zero
returns-clause-not_from_zero c = λ p. longer (0 ∷ 1 ∷ 3 ∷ []) (2 ∷ 3 ∷ []) (omega arith) (p.first (2 ∷ 3 ∷ []) (refl, (refl, refl)))

pub returns-clause-not_the_cycle : goal.returns-clause-not_the_cycle
returns-clause-not_the_cycle c = λ p. longer (1 ∷ 2 ∷ 1 ∷ []) (3 ∷ 3 ∷ []) (omega arith) (p.first (3 ∷ 3 ∷ []) (refl, refl))
