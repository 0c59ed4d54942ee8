use Rattle.std.proofs.Common.{ℕ, ◌<◌, ◌≢◌}
use Rattle.sum_trees.specs.Trees.{rule_at}
use Rattle.sum_trees.proofs.marks.rule_of.Given as goal

abbrev pub invariant-loop-k : goal.invariant-loop-k
invariant-loop-k l = (k : ℕ) → k < l.k → (rule_at l.rules k).name ≢ l.name
