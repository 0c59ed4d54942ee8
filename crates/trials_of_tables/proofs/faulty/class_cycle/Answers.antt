use Rattle.std.specs.Prelude.{◌≡◌, ℕ, zero, suc, Bool, List, [], ◌∷◌, refl}
use Rattle.std.proofs.Common.{arith, inl, inr, eqb-true}
use Rattle.lido_base.specs.Reach.{IsClosedPath, IsNoLater}
use Rattle.lido_syntax.specs.Sets.{Sets}
use Rattle.rule_tables.specs.InForceFaults.{is_heir}
use Rattle.lido_symbols.specs.Uses.{symbol_uses}
use Rattle.trials_of_tables.specs.Faulty.{env, class_cycle, tables_of_cycle, X, Y}
use Rattle.trials_of_tables.proofs.NumberLemmas.{numbered}
use Rattle.trials_of_tables.proofs.faulty.class_cycle.Goals as goal

module _ (sets : Sets class_cycle) where
  abbrev is_edge : ℕ → ℕ → Bool
  is_edge = is_heir class_cycle (tables_of_cycle sets)

  first : (others : List ℕ) → IsClosedPath is_edge others → IsNoLater (1 ∷ 1 ∷ []) others
  first [] h = absurd h
  first (s ∷ []) h = absurd h
  first (s ∷ c ∷ d ∷ more) h = inl (omega arith)
  first (zero ∷ zero ∷ []) h = let wrong = h.0 in cc
  first (zero ∷ suc c ∷ []) h = let same : 0 ≡ suc c = eqb-true 0 (suc c) h.1 in absurd (omega (arith, same))
  first (suc zero ∷ zero ∷ []) h = let wrong = h.1 in cc
  first (suc zero ∷ suc zero ∷ []) h = inr (refl, inr (refl, inr (refl, tt)))
  first (suc zero ∷ suc (suc c) ∷ []) h = inr (refl, inr (refl, inl (omega arith)))
  first (suc (suc s) ∷ c ∷ []) h = inr (refl, inl (omega arith))

pub returns-clause-numbers : goal.returns-clause-numbers
returns-clause-numbers c = numbered (symbol_uses class_cycle env) (X ∷ Y ∷ []) refl refl refl

pub returns-clause-fault : goal.returns-clause-fault
returns-clause-fault c sets = inl (1 ∷ 1 ∷ [], record { 0 = Y } ∷ record { 0 = Y } ∷ [], record { is = (refl, refl); first = first sets }, (refl, (refl, tt)), refl)
