use Rattle.std.specs.Prelude.{◌⊎◌, Contains, nat_eq}
use Rattle.std.proofs.Common.{inl, inr, ◌≡◌, ◌+◌, ℕ, zero, suc, [], ◌∷◌, arith, eqb-true, eq-eqb, refl}
use Rattle.lido_base.specs.Equations.{IsOrdered}
use Rattle.lido_base.proofs.TreeLemmas.{contains-cons}
use Rattle.lido_base.proofs.EquationsLemmas.{one_solution, contains-here, contains-later}
use Rattle.trials_of_values.specs.Systems.{three}
use Rattle.trials_of_values.proofs.systems.equations_in_order.Goals as goal

absent : (x : ℕ) → Contains (x ∷ []) (suc x) → ⊥
absent x h = go (contains-cons x (suc x) [] h)
  where
    go : (x ≡ suc x) ⊎ Contains [] (suc x) → ⊥
    go (inl same) = omega arith
    go (inr more) = omega (arith, more.1)

absent_later : (x : ℕ) → Contains (suc x ∷ x ∷ []) (suc (suc x)) → ⊥
absent_later x h = go (contains-cons (suc x) (suc (suc x)) (x ∷ []) h)
  where
    go : (suc x ≡ suc (suc x)) ⊎ Contains (x ∷ []) (suc (suc x)) → ⊥
    go (inl same) = omega arith
    go (inr more) = last (contains-cons x (suc (suc x)) [] more)
      where
        last : (x ≡ suc (suc x)) ⊎ Contains [] (suc (suc x)) → ⊥
        last (inl same) = omega arith
        last (inr none) = omega (arith, none.1)

at_two : (f g : ℕ → ℕ) → ((j : ℕ) → Contains (1 ∷ 0 ∷ []) j → f j ≡ g j) → f 0 + f 1 ≡ g 0 + g 1
at_two f g same = let zeros = same 0 (contains-later 1 0 (0 ∷ []) (contains-here 0 [])) in let ones = same 1 (contains-here 1 (0 ∷ [])) in λ j. zeros j + ones j

at_one : (f g : ℕ → ℕ) → ((j : ℕ) → Contains (0 ∷ []) j → f j ≡ g j) → f 0 + 1 ≡ g 0 + 1
at_one f g same = let zeros = same 0 (contains-here 0 []) in λ j. zeros j + 1

in_order : IsOrdered 0 three (2 ∷ 1 ∷ 0 ∷ [])
in_order = (absent_later 0, at_two, (absent 0, at_one, (λ h. omega (arith, h.1), λ f g same. refl, tt)))

pub returns-clause-one : goal.returns-clause-one
returns-clause-one c = one_solution 0 three nat_eq (λ i j h. eqb-true i j h) (λ i. eq-eqb i i refl) (2 ∷ 1 ∷ 0 ∷ []) in_order

apart : {a b : ℕ} → a ≡ b → a ≡ 5 → b ≡ 6 → ⊥
apart e f g = omega arith

-- in that order 2 is computed before 1, at which it asks
abbrev zero_and : ℕ → ℕ → ℕ
zero_and v zero = 0
zero_and v (suc n) = v

agree : (v w j : ℕ) → Contains (0 ∷ []) j → zero_and v j ≡ zero_and w j
agree v w zero h = refl
agree v w (suc j) h = go (contains-cons 0 (suc j) [] h)
  where
    go : (0 ≡ suc j) ⊎ Contains [] (suc j) → v ≡ w
    go (inl e) = absurd (omega arith)
    go (inr m) = absurd (omega (arith, m.1))

pub returns-clause-wrong_order : goal.returns-clause-wrong_order
returns-clause-wrong_order c = λ o. absurd (let same = (o.2.1 (zero_and 5) (zero_and 6) (agree 5 6)) in apart same refl refl)
