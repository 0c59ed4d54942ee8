use Rattle.std.proofs.Common.{◌≡◌, take, flat_map}
use Rattle.table_faults.specs.Doubles.{all_in_item}
use Rattle.table_faults.proofs.doubles.of_items.Given as goal

-- the computations so far
abbrev pub invariant-loop-item : goal.invariant-loop-item
invariant-loop-item l = l.all.items ≡ flat_map (all_in_item l.shared) (take l.item-index l.items)
