use Rattle.std.proofs.Common.{◌≡◌, ◌++◌, flat_map, take}
use Rattle.lido_symbols.specs.Occurrences.{attributes_of}
use Rattle.lido_symbols.proofs.attribute_uses.push_comps.Given as goal

abbrev pub invariant-loop-comp : goal.invariant-loop-comp
invariant-loop-comp l = l.names.items ≡ l.initial.names.items ++ flat_map attributes_of (take l.comp-index l.comps)
