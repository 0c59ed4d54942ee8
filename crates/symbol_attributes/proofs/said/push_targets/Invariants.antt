use Rattle.std.proofs.Common.{◌≡◌, ◌++◌, flat_map, take}
use Rattle.lido_syntax.specs.declared.spec.Comp.{Comp}
use Rattle.symbol_attributes.specs.Said.{told_by_rule_target}
use Rattle.symbol_attributes.proofs.said.push_targets.Given as goal

abbrev pub invariant-loop-comp : goal.invariant-loop-comp
invariant-loop-comp l = l.list.items ≡ l.initial.list.items ++ flat_map (λ (c : Comp). told_by_rule_target l.chains l.rule c.target) (take l.comp-index l.comps)
