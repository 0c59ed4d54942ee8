use Rattle.std.proofs.Common.{◌≡◌, ◌++◌, flat_map, take}
use Rattle.clash_pairs.specs.Facts.{kinds_of_rule}
use Rattle.clash_pairs.proofs.sides.push_rules.Given as goal

abbrev pub invariant-loop-rule : goal.invariant-loop-rule
invariant-loop-rule l = l.facts.items ≡ l.initial.facts.items ++ flat_map (kinds_of_rule l.numbers l.chains) (take l.rule-index l.rules)
