use Rattle.std.proofs.Common.{◌≡◌, ◌++◌, flat_map, take}
use Rattle.lido_syntax.specs.declared.spec.SymbolItem.{SymbolItem as Item}
use Rattle.lido_symbols.specs.Occurrences.{attributes_of}
use Rattle.lido_symbols.proofs.attribute_uses.push_items.Given as goal

abbrev pub invariant-loop-item : goal.invariant-loop-item
invariant-loop-item l = l.names.items ≡ l.initial.names.items ++ flat_map (λ (item : Item). flat_map attributes_of item.body) (take l.item-index l.items)
