use Rattle.std.specs.Prelude.{unwrap_or}
use Rattle.std.proofs.Common.{◌≡◌, ◌+◌, ℕ, [], Option, Some, None, arith, ap}
use Rattle.lido_base.proofs.EquationsLemmas.{contains-here}
use Rattle.trials_of_values.proofs.systems.circular_equations.Goals as goal

pub returns-clause-unordered : goal.returns-clause-unordered
returns-clause-unordered c = λ o. (let same : 0 + 1 ≡ 1 + 1 = o.1 (λ n. 0) (λ n. 1) (λ j h. absurd (omega (arith, h.1))) in cc)

more_than_itself : (o : Option ℕ) → o ≡ Some (unwrap_or o 0 + 1) → ⊥
more_than_itself None e = cc
more_than_itself (Some n) e = let same : n ≡ n + 1 = ap (λ v. unwrap_or v 0) e in omega arith

pub returns-clause-unsolved : goal.returns-clause-unsolved
returns-clause-unsolved c = λ a s. more_than_itself (a 0) (s.equations 0 (contains-here 0 []))
