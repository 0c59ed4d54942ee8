use Rattle.std.proofs.Common.{◌≡◌, ◌++◌, map, flat_map, take}
use Rattle.including_sets.specs.Uses.{told, uses_in}
use Rattle.including_sets.proofs.uses.push_comp.Given as goal

-- those behind `<-` so far
abbrev pub invariant-loop-value : goal.invariant-loop-value
invariant-loop-value l = map told l.found.items ≡ map told l.initial.found.items ++ flat_map (uses_in l.comp.number) (take l.value-index l.value-items)
