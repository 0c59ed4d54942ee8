use Rattle.kind_clashes.specs.Least.{IsFirst}
use Rattle.kind_clashes.specs.Types.{IsSecondOfType}
use Rattle.kind_clashes.proofs.LeastLemmas.{AmongFirst}
use Rattle.kind_clashes.proofs.types.second_type.Given as goal

-- the least place so far
abbrev pub invariant-loop-ty : goal.invariant-loop-ty
invariant-loop-ty l = IsFirst (AmongFirst (IsSecondOfType l.typed) l.ty-items l.ty-index) l.least
