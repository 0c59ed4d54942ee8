use Rattle.std.proofs.Common.{◌≡◌, ◌++◌, flat_map, take}
use Rattle.std.specs.Borrow.{Bor}
use Rattle.lido_syntax.specs.declared.spec.Expr.{Expr}
use Rattle.symbol_attributes.specs.Said.{told_by_leaf}
use Rattle.symbol_attributes.proofs.said.push_comp.Given as goal

abbrev pub invariant-loop-leaf : goal.invariant-loop-leaf
invariant-loop-leaf l = l.list.items ≡ l.initial.list.items ++ flat_map (λ (r : Bor Expr). told_by_leaf l.chains l.own r.now) (take l.leaf-index l.leaf-items)
