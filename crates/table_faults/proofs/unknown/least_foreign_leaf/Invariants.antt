use Rattle.std.specs.Prelude.{map}
use Rattle.kind_clashes.specs.Least.{IsFirst}
use Rattle.kind_clashes.proofs.LeastLemmas.{AmongFirst}
use Rattle.table_faults.specs.Unknown.{IsForeignLeaf}
use Rattle.table_faults.proofs.unknown.least_foreign_leaf.Given as goal

-- the least place so far
abbrev pub invariant-loop-leaf : goal.invariant-loop-leaf
invariant-loop-leaf l = IsFirst (AmongFirst (IsForeignLeaf l.strings l.rule) (map (λ e. e.now) l.leaves) l.leaf-index) l.least
