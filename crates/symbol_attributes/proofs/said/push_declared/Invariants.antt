use Rattle.std.proofs.Common.{◌≡◌, ◌++◌, flat_map, take}
use Rattle.symbol_attributes.specs.Said.{said_by_decls}
use Rattle.symbol_attributes.proofs.said.push_declared.Given as goal

abbrev pub invariant-loop-item : goal.invariant-loop-item
invariant-loop-item l = l.list.items ≡ l.initial.list.items ++ flat_map said_by_decls (take l.item-index l.items)
