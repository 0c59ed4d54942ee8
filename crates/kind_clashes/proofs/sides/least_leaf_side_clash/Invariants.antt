use Rattle.std.specs.Prelude.{map}
use Rattle.kind_clashes.specs.Least.{IsFirst}
use Rattle.kind_clashes.proofs.LeastLemmas.{AmongFirst}
use Rattle.kind_clashes.specs.Sides.{IsLeafSideClash}
use Rattle.kind_clashes.proofs.sides.least_leaf_side_clash.Given as goal

-- the least place so far
abbrev pub invariant-loop-leaf : goal.invariant-loop-leaf
invariant-loop-leaf l = IsFirst (AmongFirst (IsLeafSideClash l.sets l.rule l.strings) (map (λ e. e.now) l.leaves) l.leaf-index) l.least
