use Rattle.kind_clashes.specs.Least.{IsFirst}
use Rattle.kind_clashes.proofs.LeastLemmas.{AmongFirst}
use Rattle.constituents_expand.specs.Uses.{told}
use Rattle.constituents_expand.specs.Faults.{IsLackAt}
use Rattle.constituents_expand.proofs.faults.least_lack.Given as goal

-- the least so far
abbrev pub invariant-loop-one : goal.invariant-loop-one
invariant-loop-one l = IsFirst (AmongFirst (λ u. IsLackAt l.symbols l.rows (told u)) l.uses l.one-index) l.found
