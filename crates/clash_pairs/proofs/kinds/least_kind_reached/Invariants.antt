use Rattle.kind_clashes.specs.Least.{IsFirst}
use Rattle.clash_pairs.specs.Kinds.{IsKindReached}
use Rattle.kind_clashes.proofs.LeastLemmas.{AmongFirst}
use Rattle.clash_pairs.proofs.kinds.least_kind_reached.Given as goal

-- the least place so far
abbrev pub invariant-loop-one : goal.invariant-loop-one
invariant-loop-one l = IsFirst (AmongFirst (IsKindReached l.kind l.firsts) l.said l.one-index) l.least
