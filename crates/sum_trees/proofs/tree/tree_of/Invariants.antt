use Rattle.std.proofs.Common.{length}
use Rattle.sum_trees.specs.Steps.{IsReading}
use Rattle.sum_trees.proofs.tree.tree_of.Given as goal

abbrev pub invariant-loop-current : goal.invariant-loop-current
invariant-loop-current l = IsReading l.rules l.text l.nodes l.current l.rest

abbrev pub decreases-loop-current : goal.decreases-loop-current
decreases-loop-current l = length l.rest
