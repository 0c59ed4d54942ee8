use Rattle.std.proofs.Common.{◌≡◌, ◌++◌, flat_map, take}
use Rattle.lido_syntax.specs.declared.spec.RuleItem.{RuleItem as Rule}
use Rattle.lido_symbols.specs.Occurrences.{attributes_of}
use Rattle.lido_symbols.proofs.attribute_uses.push_rules.Given as goal

abbrev pub invariant-loop-rule : goal.invariant-loop-rule
invariant-loop-rule l = l.names.items ≡ l.initial.names.items ++ flat_map (λ (r : Rule). flat_map attributes_of r.body) (take l.rule-index l.rules)
