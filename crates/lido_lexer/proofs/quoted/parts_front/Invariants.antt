use Rattle.std.proofs.Common.{length, ◌≤◌}
use Rattle.lido_lexer.proofs.PartsLemmas.{LeadsOn}
use Rattle.lido_lexer.proofs.quoted.parts_front.Given as goal

abbrev pub invariant-loop-byte : goal.invariant-loop-byte
invariant-loop-byte l = record { leads : LeadsOn l.inner l.text.items l.left; bound : length l.left ≤ length l.inner }

abbrev pub decreases-loop-byte : goal.decreases-loop-byte
decreases-loop-byte l = length l.left
