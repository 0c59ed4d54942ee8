use Rattle.std.proofs.Common.{◌≡◌, ◌++◌, flat_map, take}
use Rattle.lido_base.specs.Environment.{Environment}
use Rattle.lido_syntax.specs.declared.spec.Spec.{Spec as Specification}
use Rattle.lido_symbols.specs.Uses.{symbols_of_rule}
use Rattle.lido_symbols.proofs.symbol_uses.push_rules.Given as goal

abbrev pub invariant-loop-rule : goal.invariant-loop-rule
invariant-loop-rule l = (env : Environment) (spec : Specification) → env.texts ≡ l.strings → l.names.items ≡ l.initial.names.items ++ flat_map (symbols_of_rule spec env) (take l.rule-index l.rules)
