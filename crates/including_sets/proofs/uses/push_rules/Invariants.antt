use Rattle.std.proofs.Common.{◌≡◌, ◌++◌, map, flat_map, take}
use Rattle.lido_syntax.specs.declared.spec.RuleItem.{RuleItem as Rule}
use Rattle.including_sets.specs.Uses.{told, uses_of}
use Rattle.including_sets.proofs.uses.push_rules.Given as goal

-- those so far
abbrev pub invariant-loop-rule : goal.invariant-loop-rule
invariant-loop-rule l = map told l.found.items ≡ map told l.initial.found.items ++ flat_map (λ (r : Rule). flat_map uses_of r.body) (take l.rule-index l.rules)
