use Rattle.std.proofs.Common.{length, ◌≤◌}
use Rattle.lido_top.proofs.SumsLemmas.{HasSums, StayFrom}
use Rattle.lido_top.proofs.sums.sums_of.Given as goal

abbrev pub invariant-loop-i : goal.invariant-loop-i
invariant-loop-i l = record { within : l.i ≤ length l.nodes; sums : HasSums l.rules l.nodes l.values.items l.i; stay : StayFrom l.rules l.nodes l.values.items l.i }

abbrev pub decreases-loop-i : goal.decreases-loop-i
decreases-loop-i l = l.i
