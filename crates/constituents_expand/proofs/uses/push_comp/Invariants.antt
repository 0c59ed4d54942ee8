use Rattle.std.proofs.Common.{◌≡◌, ◌++◌, map, flat_map, take, false}
use Rattle.constituents_expand.specs.Uses.{told, uses_in}
use Rattle.constituents_expand.proofs.uses.push_comp.Given as goal

-- those behind `<-` so far
abbrev pub invariant-loop-value : goal.invariant-loop-value
invariant-loop-value l = map told l.found.items ≡ map told l.initial.found.items ++ flat_map (uses_in l.comp.number false) (take l.value-index l.value-items)
