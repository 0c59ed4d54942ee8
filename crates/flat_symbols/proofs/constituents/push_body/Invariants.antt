use Rattle.std.proofs.Common.{◌≡◌, ◌++◌, flat_map, take}
use Rattle.flat_symbols.specs.Constituents.{numbers_of}
use Rattle.flat_symbols.proofs.constituents.push_body.Given as goal

-- the computations so far
abbrev pub invariant-loop-comp : goal.invariant-loop-comp
invariant-loop-comp l = l.numbers.items ≡ l.initial.numbers.items ++ flat_map numbers_of (take l.comp-index l.body)
