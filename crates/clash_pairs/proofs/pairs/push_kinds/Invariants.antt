use Rattle.std.proofs.Common.{◌≡◌, ◌++◌, flat_map, take}
use Rattle.clash_pairs.specs.Twofold.{kind_if_passed}
use Rattle.clash_pairs.proofs.pairs.push_kinds.Given as goal

abbrev pub invariant-loop-fact : goal.invariant-loop-fact
invariant-loop-fact l = l.said.items ≡ l.initial.said.items ++ flat_map (kind_if_passed l.inheritance l.u) (take l.fact-index l.facts)
