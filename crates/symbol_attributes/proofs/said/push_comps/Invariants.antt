use Rattle.std.proofs.Common.{◌≡◌, ◌++◌, flat_map, take}
use Rattle.symbol_attributes.specs.Said.{told_by_comp}
use Rattle.symbol_attributes.proofs.said.push_comps.Given as goal

abbrev pub invariant-loop-comp : goal.invariant-loop-comp
invariant-loop-comp l = l.list.items ≡ l.initial.list.items ++ flat_map (told_by_comp l.chains l.own) (take l.comp-index l.comps)
