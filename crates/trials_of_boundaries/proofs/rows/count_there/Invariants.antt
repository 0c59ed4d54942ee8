use Rattle.trials_of_boundaries.specs.Rows.{IsReady}
use Rattle.trials_of_boundaries.proofs.rows.count_there.Given as goal

abbrev pub invariant-loop-key : goal.invariant-loop-key
invariant-loop-key l = IsReady l.boundary l.rows.count l.worker
