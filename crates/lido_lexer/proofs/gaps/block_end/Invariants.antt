use Rattle.std.proofs.Common.{◌≡◌, drop, false}
use Rattle.lido_lexer.proofs.Ends.{past_comment}
use Rattle.lido_lexer.proofs.gaps.block_end.Given as goal

abbrev pub invariant-loop-i : goal.invariant-loop-i
invariant-loop-i l = past_comment l.star (drop l.i l.bytes) ≡ past_comment false l.bytes
