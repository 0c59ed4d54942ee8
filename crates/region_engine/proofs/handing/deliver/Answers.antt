use Rattle.std.proofs.Common.{subst}
use Rattle.region_engine.specs.Deliveries.{all_puts, AreGiven}
use Rattle.region_engine.proofs.Giving.{are-none, regions-more, take-past}
use Rattle.region_engine.proofs.handing.deliver.Goals as goal

pub loop-giver-init : goal.loop-giver-init
loop-giver-init c = record { regions = c.requires; given = are-none c.args.regions.now }

pub loop-giver-preserved : goal.loop-giver-preserved
loop-giver-preserved c = record {
  regions = c.give_puts.ensures.regions;
  given = regions-more c.args.regions.now c.loop-giver.regions c.give_puts.new.regions c.loop-giver.giver c.loop-giver-test.true c.loop-giver.invariant.given c.give_puts.ensures.given;
}

pub returns-clause-given : goal.returns-clause-given
returns-clause-given c =
    subst (λ l. AreGiven (all_puts l) c.args.regions.now c.loop-giver.regions) (take-past c.args.regions.now c.loop-giver.giver c.loop-giver-test.false) c.loop-giver.invariant.given
