use Rattle.std.proofs.Common.{◌≡◌, ◌++◌, map, take}
use Rattle.clash_pairs.specs.Facts.{type_on}
use Rattle.clash_pairs.proofs.items.push_type.Given as goal

abbrev pub invariant-loop-symbol : goal.invariant-loop-symbol
invariant-loop-symbol l = l.facts.items ≡ l.initial.facts.items ++ map (type_on l.numbers l.decl) (take l.symbol-index l.own)
