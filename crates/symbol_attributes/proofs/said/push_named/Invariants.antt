use Rattle.std.proofs.Common.{◌≡◌, ◌++◌, map, take}
use Rattle.symbol_attributes.specs.Said.{said_of_named}
use Rattle.symbol_attributes.proofs.said.push_named.Given as goal

abbrev pub invariant-loop-one : goal.invariant-loop-one
invariant-loop-one l = l.list.items ≡ l.initial.list.items ++ map said_of_named (take l.one-index l.named)
