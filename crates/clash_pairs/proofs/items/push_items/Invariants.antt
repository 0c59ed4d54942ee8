use Rattle.std.proofs.Common.{◌≡◌, ◌++◌, flat_map, take}
use Rattle.clash_pairs.specs.Facts.{kinds_of_item}
use Rattle.clash_pairs.proofs.items.push_items.Given as goal

abbrev pub invariant-loop-item : goal.invariant-loop-item
invariant-loop-item l = l.facts.items ≡ l.initial.facts.items ++ flat_map (kinds_of_item l.numbers l.chains) (take l.item-index l.items)
