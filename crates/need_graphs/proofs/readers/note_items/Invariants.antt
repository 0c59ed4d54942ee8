use Rattle.std.proofs.Common.{◌≡◌, ◌++◌, flat_map, take}
use Rattle.lido_syntax.specs.declared.spec.SymbolItem.{SymbolItem as Item}
use Rattle.need_graphs.specs.Users.{readers_of}
use Rattle.need_graphs.proofs.readers.note_items.Given as goal

-- the items so far
abbrev pub invariant-loop-item : goal.invariant-loop-item
invariant-loop-item l = l.found.items ≡ l.initial.found.items ++ flat_map (λ (item : Item). readers_of l.chain.0 l.starts item.body) (take l.item-index l.items)
