use Rattle.std.specs.Prelude.{map}
use Rattle.kind_clashes.specs.Least.{IsFirst}
use Rattle.kind_clashes.proofs.LeastLemmas.{AmongFirst}
use Rattle.kind_clashes.specs.Items.{IsOwnLeaf}
use Rattle.kind_clashes.proofs.items.least_own_leaf.Given as goal

-- the least place so far
abbrev pub invariant-loop-leaf : goal.invariant-loop-leaf
invariant-loop-leaf l = IsFirst (AmongFirst (IsOwnLeaf l.sets) (map (λ e. e.now) l.leaves) l.leaf-index) l.least
