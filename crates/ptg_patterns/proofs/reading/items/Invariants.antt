use Rattle.std.proofs.Common.{◌≤◌, length}
use Rattle.ptg_patterns.proofs.FrontsLemmas.{AreItems}
use Rattle.ptg_patterns.proofs.reading.items.Given as goal

abbrev pub invariant-loop-next_brace : goal.invariant-loop-next_brace
invariant-loop-next_brace l = record {
  reads : AreItems l.marks l.found.items l.brace l.rest;
  shorter : length l.rest ≤ length l.marks;
}

abbrev pub decreases-loop-next_brace : goal.decreases-loop-next_brace
decreases-loop-next_brace l = length l.rest
