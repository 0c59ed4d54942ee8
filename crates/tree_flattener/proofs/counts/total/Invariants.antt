use Rattle.std.proofs.Common.{◌≡◌, ◌≤◌, ◌*◌, sum_by, take, get_or}
use Rattle.lido_base.specs.declared.value.Value.{Value}
use Rattle.lido_base.specs.Tree.{Node}
use Rattle.tree_flattener.proofs.counts.total.Given as goal

-- the sum of the first nodes' numbers
abbrev pub invariant-loop-n : goal.invariant-loop-n
invariant-loop-n l = record {
  sum : l.sum ≡ sum_by (λ (node : Node Value). get_or l.numbers node.rule 0) (take l.n l.tree);
  few : l.sum ≤ l.n * 16777217;
}
