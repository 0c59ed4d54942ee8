use Rattle.std.proofs.Common.{◌≡◌, ◌++◌, flat_map, take}
use Rattle.symbol_attributes.specs.Named.{named_by_pair}
use Rattle.symbol_attributes.proofs.named.push_pairs.Given as goal

abbrev pub invariant-loop-pair : goal.invariant-loop-pair
invariant-loop-pair l = l.found.items ≡ l.initial.found.items ++ flat_map (named_by_pair l.chains l.own) (take l.pair-index l.pairs)
