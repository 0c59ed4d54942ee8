use Rattle.kind_clashes.specs.Least.{IsFirst}
use Rattle.kind_clashes.proofs.LeastLemmas.{AmongFirst}
use Rattle.table_faults.specs.Unknown.{IsUnknownName}
use Rattle.table_faults.proofs.unknown.least_unknown_name.Given as goal

-- the least place so far
abbrev pub invariant-loop-name : goal.invariant-loop-name
invariant-loop-name l = IsFirst (AmongFirst (IsUnknownName l.sets) l.names l.name-index) l.least
