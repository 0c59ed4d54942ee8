use Rattle.std.specs.Borrow.{Bor}
use Rattle.std.proofs.Common.{◌≡◌, ◌≤◌, map, take}
use Rattle.lido_syntax.specs.declared.spec.Expr.{Expr}
use Rattle.table_faults.specs.Limits.{constituents_in}
use Rattle.table_faults.proofs.limits.constituents_count.Given as goal

abbrev pub invariant-loop-leaf : goal.invariant-loop-leaf
invariant-loop-leaf l = record {
  count : l.count ≡ constituents_in (map (λ (e : Bor Expr). e.now) (take l.leaf-index l.leaves));
  few : l.count ≤ l.leaf-index;
}
