use Rattle.std.proofs.Common.{length}
use Rattle.core_machine.specs.Cursors.{IsCursor, left}
use Rattle.trials_of_jobs.proofs.cursor_tests.walked.Given as goal

-- the cursor stands in the list
abbrev pub invariant-loop-item : goal.invariant-loop-item
invariant-loop-item l = IsCursor l.job l.cursor

-- what is left of the list
abbrev pub decreases-loop-item : goal.decreases-loop-item
decreases-loop-item l = length (left l.job l.cursor)
