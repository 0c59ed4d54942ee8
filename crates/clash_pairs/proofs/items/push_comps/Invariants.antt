use Rattle.std.proofs.Common.{◌≡◌, ◌++◌, flat_map, take}
use Rattle.clash_pairs.specs.Facts.{kinds_in_comp}
use Rattle.clash_pairs.proofs.items.push_comps.Given as goal

abbrev pub invariant-loop-comp : goal.invariant-loop-comp
invariant-loop-comp l = l.facts.items ≡ l.initial.facts.items ++ flat_map (kinds_in_comp l.numbers l.chains l.own) (take l.comp-index l.comps)
