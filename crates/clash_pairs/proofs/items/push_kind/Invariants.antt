use Rattle.std.proofs.Common.{◌≡◌, ◌++◌, map, take}
use Rattle.clash_pairs.specs.Facts.{kind_on}
use Rattle.clash_pairs.proofs.items.push_kind.Given as goal

abbrev pub invariant-loop-symbol : goal.invariant-loop-symbol
invariant-loop-symbol l = l.facts.items ≡ l.initial.facts.items ++ map (kind_on l.numbers l.attr l.kind) (take l.symbol-index l.own)
