use Rattle.std.proofs.Common.{◌≡◌, ◌++◌, map, flat_map, take}
use Rattle.including_sets.specs.Uses.{told, uses_in}
use Rattle.including_sets.proofs.uses.+push_uses.Given as goal

-- the INCLUDINGs of the arguments so far
abbrev pub invariant-loop-arg : goal.invariant-loop-arg
invariant-loop-arg l = map told l.found.items ≡ map told l.initial.found.items ++ flat_map (uses_in l.comp) (take l.arg-index l.arg-items)
