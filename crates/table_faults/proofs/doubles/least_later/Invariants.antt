use Rattle.kind_clashes.specs.Least.{IsFirst}
use Rattle.kind_clashes.proofs.LeastLemmas.{AmongFirst}
use Rattle.table_faults.specs.declared.doubles.Computed.{Computed}
use Rattle.table_faults.specs.Doubles.{IsLater}
use Rattle.table_faults.proofs.doubles.least_later.Given as goal

-- the least place so far
abbrev pub invariant-loop-computed : goal.invariant-loop-computed
invariant-loop-computed l = IsFirst (AmongFirst (λ (c : Computed) at. IsLater l.firsts c at) l.all l.computed-index) l.least
