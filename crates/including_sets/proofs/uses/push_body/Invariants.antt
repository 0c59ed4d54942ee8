use Rattle.std.proofs.Common.{◌≡◌, ◌++◌, map, flat_map, take}
use Rattle.including_sets.specs.Uses.{told, uses_of}
use Rattle.including_sets.proofs.uses.push_body.Given as goal

-- those so far
abbrev pub invariant-loop-comp : goal.invariant-loop-comp
invariant-loop-comp l = map told l.found.items ≡ map told l.initial.found.items ++ flat_map uses_of (take l.comp-index l.body)
