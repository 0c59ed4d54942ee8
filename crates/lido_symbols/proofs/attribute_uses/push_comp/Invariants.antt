use Rattle.std.proofs.Common.{◌≡◌, ◌++◌, flat_map, take}
use Rattle.std.specs.Borrow.{Bor}
use Rattle.lido_syntax.specs.declared.spec.Expr.{Expr}
use Rattle.lido_symbols.specs.Uses.{attributes_in}
use Rattle.lido_symbols.proofs.attribute_uses.push_comp.Given as goal

abbrev pub invariant-loop-leaf : goal.invariant-loop-leaf
invariant-loop-leaf l = l.names.items ≡ l.initial.names.items ++ flat_map (λ (r : Bor Expr). attributes_in r.now) (take l.leaf-index l.leaf-items)
