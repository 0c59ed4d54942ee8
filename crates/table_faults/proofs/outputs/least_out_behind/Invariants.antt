use Rattle.kind_clashes.specs.Least.{IsFirst}
use Rattle.kind_clashes.proofs.LeastLemmas.{AmongFirst}
use Rattle.table_faults.specs.Parts.{IsOutBehind}
use Rattle.table_faults.proofs.outputs.least_out_behind.Given as goal

-- the least place so far
abbrev pub invariant-loop-comp : goal.invariant-loop-comp
invariant-loop-comp l = IsFirst (AmongFirst (IsOutBehind l.first) l.body l.comp-index) l.least
