use Rattle.trials_of_regions.specs.Standing.{AreStanding}
use Rattle.trials_of_regions.proofs.turns.last_turns.Given as goal

-- they stand as before
abbrev pub invariant-loop : goal.invariant-loop
invariant-loop l = AreStanding l.job l.boundary l.regions
