use Rattle.std.proofs.Common.{◌≡◌, ◌++◌, flat_map, take}
use Rattle.lido_base.specs.Environment.{Environment}
use Rattle.lido_symbols.specs.Uses.{symbols_of_computation, is_coordinate_of_symbol}
use Rattle.lido_symbols.proofs.symbol_uses.push_item.Given as goal

abbrev pub invariant-loop-comp : goal.invariant-loop-comp
invariant-loop-comp l = (env : Environment) → env.texts ≡ l.strings → l.names.items ≡ l.initial.names.items ++ flat_map (symbols_of_computation (is_coordinate_of_symbol env)) (take l.comp-index l.comp-items)
