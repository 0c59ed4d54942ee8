use Rattle.std.proofs.Common.{◌≡◌, ◌++◌, map, take}
use Rattle.symbol_attributes.specs.Named.{on_symbol}
use Rattle.symbol_attributes.proofs.named.push_on.Given as goal

abbrev pub invariant-loop-symbol : goal.invariant-loop-symbol
invariant-loop-symbol l = l.found.items ≡ l.initial.found.items ++ map (on_symbol l.attribute) (take l.symbol-index l.symbols)
