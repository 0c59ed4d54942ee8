use Rattle.std.specs.Prelude.{map}
use Rattle.kind_clashes.specs.Least.{IsFirst}
use Rattle.kind_clashes.proofs.LeastLemmas.{AmongFirst}
use Rattle.kind_clashes.specs.Comps.{IsTail}
use Rattle.kind_clashes.proofs.comps.least_tail.Given as goal

-- the least place so far
abbrev pub invariant-loop-leaf : goal.invariant-loop-leaf
invariant-loop-leaf l = IsFirst (AmongFirst (IsTail) (map (λ e. e.now) l.leaves) l.leaf-index) l.least
