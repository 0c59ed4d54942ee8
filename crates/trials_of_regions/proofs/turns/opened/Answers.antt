use Rattle.std.proofs.Common.{subst, sym}
use Rattle.trials_of_regions.specs.Standing.{AreStanding}
use Rattle.trials_of_regions.proofs.Standings.{two-standing}
use Rattle.trials_of_regions.proofs.turns.opened.Goals as goal

pub returns : goal.returns
returns c = subst (AreStanding c.args.job.now c.in_ok-boundary.boundary) (sym c.in_ok-regions.ensures.items)
    (two-standing c.args.job.now c.in_ok-boundary.boundary c.in_ok-root.root c.in_ok-split.split c.requires c.in_ok-root.ensures.region
    c.in_ok-split.ensures.region
    c.in_ok-root.ensures.table c.in_ok-split.ensures.table)
