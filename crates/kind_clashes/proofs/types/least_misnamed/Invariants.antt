use Rattle.kind_clashes.specs.Least.{IsFirst}
use Rattle.kind_clashes.specs.Types.{IsMisnamed}
use Rattle.kind_clashes.proofs.LeastLemmas.{AmongFirst}
use Rattle.kind_clashes.proofs.types.least_misnamed.Given as goal

-- the least place so far
abbrev pub invariant-loop-term : goal.invariant-loop-term
invariant-loop-term l = IsFirst (AmongFirst (IsMisnamed l.sets) l.terms l.term-index) l.least
