use Rattle.kind_clashes.specs.Least.{IsFirst}
use Rattle.kind_clashes.specs.Types.{IsTypedBehind}
use Rattle.kind_clashes.proofs.LeastLemmas.{AmongFirst}
use Rattle.kind_clashes.proofs.types.least_typed_behind.Given as goal

-- the least place so far
abbrev pub invariant-loop-one : goal.invariant-loop-one
invariant-loop-one l = IsFirst (AmongFirst (IsTypedBehind l.ty l.firsts) l.typed l.one-index) l.least
