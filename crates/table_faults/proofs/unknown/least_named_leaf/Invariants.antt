use Rattle.std.specs.Prelude.{map}
use Rattle.kind_clashes.specs.Least.{IsFirst}
use Rattle.kind_clashes.proofs.LeastLemmas.{AmongFirst}
use Rattle.table_faults.specs.Unknown.{IsNamedLeaf}
use Rattle.table_faults.proofs.unknown.least_named_leaf.Given as goal

-- the least place so far
abbrev pub invariant-loop-leaf : goal.invariant-loop-leaf
invariant-loop-leaf l = IsFirst (AmongFirst (IsNamedLeaf l.strings) (map (λ e. e.now) l.leaves) l.leaf-index) l.least
