use Rattle.large_grammars.specs.Sizes.{AreBefore}
use Rattle.large_grammars.proofs.computations.push_goals.Given as goal

-- the computations so far
abbrev pub invariant-loop-a : goal.invariant-loop-a
invariant-loop-a l = AreBefore l.fn.size l.fn.k l.a l.comps.items
