use Rattle.std.proofs.Common.{take}
use Rattle.region_engine.specs.Deliveries.{all_puts, AreGiven, AreRegions}
use Rattle.region_engine.proofs.handing.deliver.Given as goal

-- each region has what the regions so far put
abbrev pub invariant-loop-giver : goal.invariant-loop-giver
invariant-loop-giver l = record {
  regions : AreRegions l.job l.regions;
  given : AreGiven (all_puts (take l.giver l.initial.regions)) l.initial.regions l.regions;
}
