use Rattle.std.proofs.Common.{◌≡◌, ◌++◌, flat_map, take}
use Rattle.symbol_attributes.specs.Named.{named_by_item}
use Rattle.symbol_attributes.proofs.named.push_items.Given as goal

abbrev pub invariant-loop-item : goal.invariant-loop-item
invariant-loop-item l = l.found.items ≡ l.initial.found.items ++ flat_map (named_by_item l.chains) (take l.item-index l.items)
