use Rattle.std.proofs.Common.{◌≡◌, ◌++◌, take}
use Rattle.symbol_attributes.specs.Named.{named_by_rules}
use Rattle.symbol_attributes.proofs.named.push_rules.Given as goal

abbrev pub invariant-loop-rule : goal.invariant-loop-rule
invariant-loop-rule l = l.found.items ≡ l.initial.found.items ++ named_by_rules l.chains (take l.rule-index l.rules)
