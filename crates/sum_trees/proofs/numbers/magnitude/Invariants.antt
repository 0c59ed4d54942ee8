use Rattle.std.proofs.Common.{◌≡◌, drop}
use Rattle.sum_trees.specs.Bytes.{said_after}
use Rattle.sum_trees.proofs.numbers.magnitude.Given as goal

abbrev pub invariant-loop-b : goal.invariant-loop-b
invariant-loop-b l = said_after l.value (drop l.b-index l.digits) ≡ said_after 0 l.digits
