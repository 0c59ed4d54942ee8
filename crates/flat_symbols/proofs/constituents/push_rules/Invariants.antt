use Rattle.std.proofs.Common.{◌≡◌, ◌++◌, flat_map, take}
use Rattle.lido_syntax.specs.declared.spec.RuleItem.{RuleItem as Rule}
use Rattle.flat_symbols.specs.Constituents.{numbers_of}
use Rattle.flat_symbols.proofs.constituents.push_rules.Given as goal

-- the rules so far
abbrev pub invariant-loop-rule : goal.invariant-loop-rule
invariant-loop-rule l = l.numbers.items ≡ l.initial.numbers.items ++ flat_map (λ (r : Rule). flat_map numbers_of r.body) (take l.rule-index l.rules)
