use Rattle.std.proofs.Common.{ℕ}
use Rattle.computation_aims.specs.declared.aims.Aim.{Aim}
use Rattle.kind_clashes.specs.Least.{IsFirst}
use Rattle.kind_clashes.proofs.LeastLemmas.{AmongFirst}
use Rattle.table_faults.specs.Doubles.{first_at, IsComputedAs}
use Rattle.table_faults.proofs.doubles.Firsts.of.Given as goal

-- the least places so far
abbrev pub invariant-loop-computed : goal.invariant-loop-computed
invariant-loop-computed l = (place : ℕ) (aim : Aim) → IsFirst (AmongFirst (IsComputedAs place aim) l.all l.computed-index) (first_at l.firsts place aim)
