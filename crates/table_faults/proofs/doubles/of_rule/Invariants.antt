use Rattle.std.proofs.Common.{◌≡◌, take, flat_map, option_to_list}
use Rattle.lido_syntax.specs.declared.spec.Comp.{Comp}
use Rattle.table_faults.specs.Doubles.{computed_in_rule}
use Rattle.table_faults.proofs.doubles.of_rule.Given as goal

-- the computations so far
abbrev pub invariant-loop-comp : goal.invariant-loop-comp
invariant-loop-comp l = l.all.items ≡ flat_map (λ (c : Comp). option_to_list (computed_in_rule l.chains l.rule c)) (take l.comp-index l.comp-items)
