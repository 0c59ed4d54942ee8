use Rattle.std.specs.Prelude.{map}
use Rattle.kind_clashes.specs.Least.{IsFirst}
use Rattle.kind_clashes.proofs.LeastLemmas.{AmongFirst}
use Rattle.kind_clashes.specs.Comps.{IsFromBelow}
use Rattle.kind_clashes.proofs.comps.least_from_below.Given as goal

-- the least place so far
abbrev pub invariant-loop-leaf : goal.invariant-loop-leaf
invariant-loop-leaf l = IsFirst (AmongFirst (IsFromBelow) (map (λ e. e.now) l.leaves) l.leaf-index) l.least
