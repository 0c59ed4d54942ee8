use Rattle.std.proofs.Common.{◌≡◌, ◌++◌, flat_map, take}
use Rattle.symbol_attributes.specs.Said.{told_by_rule}
use Rattle.symbol_attributes.proofs.said.push_rules.Given as goal

abbrev pub invariant-loop-rule : goal.invariant-loop-rule
invariant-loop-rule l = l.list.items ≡ l.initial.list.items ++ flat_map (told_by_rule l.chains) (take l.rule-index l.rules)
