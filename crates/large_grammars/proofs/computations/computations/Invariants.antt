use Rattle.large_grammars.specs.Sizes.{AreBefore}
use Rattle.large_grammars.proofs.computations.computations.Given as goal

-- the computations so far
abbrev pub invariant-loop-k : goal.invariant-loop-k
invariant-loop-k l = AreBefore l.fn.size l.k 0 l.comps.items
