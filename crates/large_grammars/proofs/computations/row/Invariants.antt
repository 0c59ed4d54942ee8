use Rattle.std.specs.Prelude.{All}
use Rattle.large_grammars.specs.Sizes.{IsInside}
use Rattle.large_grammars.proofs.computations.row.Given as goal

-- all so far are attribute occurrences of the rule
abbrev pub invariant-loop-k : goal.invariant-loop-k
invariant-loop-k l = All (IsInside l.fn.size) l.list
