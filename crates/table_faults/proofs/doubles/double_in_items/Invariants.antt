use Rattle.kind_clashes.specs.Least.{IsFirst}
use Rattle.kind_clashes.proofs.LeastLemmas.{AmongFirst}
use Rattle.table_faults.specs.Doubles.{IsDoubleInItem}
use Rattle.table_faults.proofs.doubles.double_in_items.Given as goal

-- the least place so far
abbrev pub invariant-loop-item : goal.invariant-loop-item
invariant-loop-item l = IsFirst (AmongFirst IsDoubleInItem l.items l.item-index) l.least
