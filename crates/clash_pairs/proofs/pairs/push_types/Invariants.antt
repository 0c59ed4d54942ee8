use Rattle.std.proofs.Common.{◌≡◌, ◌++◌, flat_map, take}
use Rattle.clash_pairs.specs.Twofold.{type_if_passed}
use Rattle.clash_pairs.proofs.pairs.push_types.Given as goal

abbrev pub invariant-loop-fact : goal.invariant-loop-fact
invariant-loop-fact l = l.typed.items ≡ l.initial.typed.items ++ flat_map (type_if_passed l.inheritance l.u) (take l.fact-index l.facts)
