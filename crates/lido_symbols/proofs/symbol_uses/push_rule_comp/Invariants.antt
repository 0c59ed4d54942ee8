use Rattle.std.proofs.Common.{◌≡◌, ◌++◌, flat_map, take}
use Rattle.std.specs.Borrow.{Bor}
use Rattle.lido_base.specs.Environment.{Environment}
use Rattle.lido_syntax.specs.declared.spec.Expr.{Expr}
use Rattle.lido_syntax.specs.declared.spec.RuleItem.{RuleItem}
use Rattle.lido_symbols.specs.Occurrences.{IsProductionOf}
use Rattle.lido_symbols.specs.Uses.{symbols_in, is_coordinate_of_rule}
use Rattle.lido_symbols.proofs.symbol_uses.push_rule_comp.Given as goal

abbrev pub invariant-loop-leaf : goal.invariant-loop-leaf
invariant-loop-leaf l = (rule : RuleItem) (env : Environment) → IsProductionOf rule l.production → env.texts ≡ l.strings → l.names.items ≡ l.initial.names.items ++ flat_map (λ (r : Bor Expr). symbols_in (is_coordinate_of_rule env rule) r.now) (take l.leaf-index l.leaf-items)
