use Rattle.std.proofs.Common.{◌≡◌, ◌++◌, map, flat_map, take}
use Rattle.lido_syntax.specs.declared.spec.Decl.{Decl as Declared}
use Rattle.lido_syntax.specs.declared.spec.SymbolItem.{SymbolItem as Item}
use Rattle.lido_symbols.proofs.attribute_uses.push_item_decls.Given as goal

abbrev pub invariant-loop-item : goal.invariant-loop-item
invariant-loop-item l = l.names.items ≡ l.initial.names.items ++ flat_map (λ (item : Item). map (λ (d : Declared). d.attr) item.decls) (take l.item-index l.items)
