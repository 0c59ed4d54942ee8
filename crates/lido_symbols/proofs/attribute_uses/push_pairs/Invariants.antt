use Rattle.std.proofs.Common.{◌≡◌, ◌++◌, map, take}
use Rattle.lido_syntax.specs.declared.spec.Pair.{Pair as OnePair}
use Rattle.lido_symbols.proofs.attribute_uses.push_pairs.Given as goal

abbrev pub invariant-loop-pair : goal.invariant-loop-pair
invariant-loop-pair l = l.names.items ≡ l.initial.names.items ++ map (λ (p : OnePair). p.attr) (take l.pair-index l.pairs)
