use Rattle.std.proofs.Common.{◌≡◌, ◌++◌, flat_map, take}
use Rattle.lido_syntax.specs.declared.spec.SymbolItem.{SymbolItem as Item}
use Rattle.flat_symbols.specs.Constituents.{numbers_of}
use Rattle.flat_symbols.proofs.constituents.push_items.Given as goal

-- the symbols so far
abbrev pub invariant-loop-item : goal.invariant-loop-item
invariant-loop-item l = l.numbers.items ≡ l.initial.numbers.items ++ flat_map (λ (item : Item). flat_map numbers_of item.body) (take l.item-index l.items)
