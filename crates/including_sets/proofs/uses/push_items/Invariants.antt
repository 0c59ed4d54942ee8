use Rattle.std.proofs.Common.{◌≡◌, ◌++◌, map, flat_map, take}
use Rattle.lido_syntax.specs.declared.spec.SymbolItem.{SymbolItem as Item}
use Rattle.including_sets.specs.Uses.{told, uses_of}
use Rattle.including_sets.proofs.uses.push_items.Given as goal

-- those so far
abbrev pub invariant-loop-item : goal.invariant-loop-item
invariant-loop-item l = map told l.found.items ≡ map told l.initial.found.items ++ flat_map (λ (item : Item). flat_map uses_of item.body) (take l.item-index l.items)
