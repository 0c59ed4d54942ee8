use Rattle.std.proofs.Common.{◌≡◌, ◌++◌, map, take}
use Rattle.symbol_attributes.specs.Said.{said_on}
use Rattle.symbol_attributes.proofs.said.push_on.Given as goal

abbrev pub invariant-loop-symbol : goal.invariant-loop-symbol
invariant-loop-symbol l = l.list.items ≡ l.initial.list.items ++ map (said_on l.attribute l.facts) (take l.symbol-index l.symbols)
