use Rattle.std.proofs.Common.{◌≡◌, ◌++◌, flat_map, take}
use Rattle.symbol_attributes.specs.Said.{told_by_item}
use Rattle.symbol_attributes.proofs.said.push_items.Given as goal

abbrev pub invariant-loop-item : goal.invariant-loop-item
invariant-loop-item l = l.list.items ≡ l.initial.list.items ++ flat_map (told_by_item l.chains) (take l.item-index l.items)
