use Rattle.std.proofs.Common.{length, ◌≤◌}
use Rattle.lido_lexer.specs.Gaps.{IsPast}
use Rattle.lido_lexer.proofs.gaps.skip_gaps.Given as goal

abbrev pub invariant-loop-rest : goal.invariant-loop-rest
invariant-loop-rest l = record { past : IsPast l.bytes l.left; bound : length l.left ≤ length l.bytes }

abbrev pub decreases-loop-rest : goal.decreases-loop-rest
decreases-loop-rest l = length l.left
