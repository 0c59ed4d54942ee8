use Rattle.std.proofs.Common.{◌≡◌, ◌++◌, flat_map, take}
use Rattle.symbol_attributes.specs.Named.{named_by}
use Rattle.symbol_attributes.proofs.named.push_comps.Given as goal

abbrev pub invariant-loop-comp : goal.invariant-loop-comp
invariant-loop-comp l = l.found.items ≡ l.initial.found.items ++ flat_map (named_by l.chains l.own) (take l.comp-index l.comps)
