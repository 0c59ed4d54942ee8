use Rattle.std.proofs.Common.{◌≡◌, take}
use Rattle.clash_pairs.specs.Facts.{types_of_items}
use Rattle.clash_pairs.proofs.items.type_facts.Given as goal

abbrev pub invariant-loop-item : goal.invariant-loop-item
invariant-loop-item l = l.facts.items ≡ types_of_items l.numbers (take l.item-index l.items)
