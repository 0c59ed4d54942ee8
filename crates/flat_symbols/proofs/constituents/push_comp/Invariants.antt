use Rattle.std.proofs.Common.{◌≡◌, ◌++◌, flat_map, take}
use Rattle.std.specs.Borrow.{Bor}
use Rattle.lido_syntax.specs.declared.spec.Expr.{Expr}
use Rattle.flat_symbols.specs.Constituents.{numbers_in}
use Rattle.flat_symbols.proofs.constituents.push_comp.Given as goal

-- the leaves so far
abbrev pub invariant-loop-leaf : goal.invariant-loop-leaf
invariant-loop-leaf l = l.numbers.items ≡ l.initial.numbers.items ++ flat_map (λ (r : Bor Expr). numbers_in r.now) (take l.leaf-index l.leaf-items)
