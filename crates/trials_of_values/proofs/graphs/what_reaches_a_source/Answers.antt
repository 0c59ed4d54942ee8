use Rattle.std.specs.Prelude.{◌≡◌, ◌||◌, Bool, true, false, IsTrue, nat_eq, ℕ, [], ◌∷◌}
use Rattle.std.proofs.Common.{rules, arith, eqb-true, refl, subst}
use Rattle.lido_base.specs.Reach.{source, edge, IsClosed, IsWithin}
use Rattle.lido_base.proofs.ReachLemmas.{Reaches-least, decided}
use Rattle.trials_of_values.specs.Graphs.{chain}
use Rattle.trials_of_values.proofs.graphs.what_reaches_a_source.Goals as goal

pub returns-clause-source : goal.returns-clause-source
returns-clause-source c = source refl

pub returns-clause-far : goal.returns-clause-far
returns-clause-far c = edge {c = 2} refl (edge {c = 1} refl (source refl))

either_false : (b : Bool) → IsTrue (b || false) → IsTrue b
either_false true h = refl
either_false false h = cc

-- the set of what is not 4 is closed
but_four : IsClosed (nat_eq 1) chain (λ n. n ≡ 4 → ⊥)
but_four = record { sources = λ s h e. (let one : 1 ≡ s = eqb-true 1 s h in omega arith); edges = λ s d h other e. other (to_itself s d h e) }
  where
    to_itself : (s d : ℕ) → IsTrue (chain s d) → s ≡ 4 → d ≡ 4
    to_itself s d h e = let at_four : IsTrue (nat_eq 4 d || false) = subst (λ n. IsTrue (chain n d)) e h in
        let same : 4 ≡ d = eqb-true 4 d (either_false (nat_eq 4 d) at_four) in omega arith

pub returns-clause-alone : goal.returns-clause-alone
returns-clause-alone c = λ r. Reaches-least (nat_eq 1) chain _ but_four 4 r refl

among : IsWithin (1 ∷ 2 ∷ 3 ∷ 4 ∷ []) (nat_eq 1) chain
among = search rules

pub returns-clause-within : goal.returns-clause-within
returns-clause-within c = among

pub returns-clause-decided : goal.returns-clause-decided
returns-clause-decided c = decided (nat_eq 1) chain (1 ∷ 2 ∷ 3 ∷ 4 ∷ []) among
