use Rattle.std.proofs.Common.{◌≡◌, ◌++◌, flat_map, take}
use Rattle.lido_base.specs.Environment.{Environment}
use Rattle.lido_syntax.specs.declared.spec.Spec.{Spec as Specification}
use Rattle.lido_symbols.specs.Uses.{symbols_of_item}
use Rattle.lido_symbols.proofs.symbol_uses.push_items.Given as goal

abbrev pub invariant-loop-item : goal.invariant-loop-item
invariant-loop-item l = (env : Environment) (spec : Specification) → env.texts ≡ l.strings → l.names.items ≡ l.initial.names.items ++ flat_map (symbols_of_item spec env) (take l.item-index l.items)
