use Rattle.std.proofs.Common.{◌≡◌, ◌++◌, flat_map, take}
use Rattle.std.specs.Borrow.{Bor}
use Rattle.lido_syntax.specs.declared.spec.Expr.{Expr}
use Rattle.clash_pairs.specs.Facts.{kinds_in_leaf}
use Rattle.clash_pairs.proofs.items.push_comp.Given as goal

abbrev pub invariant-loop-leaf : goal.invariant-loop-leaf
invariant-loop-leaf l = l.facts.items ≡ l.initial.facts.items ++ flat_map (λ (r : Bor Expr). kinds_in_leaf l.numbers l.chains l.own r.now) (take l.leaf-index l.leaf-items)
