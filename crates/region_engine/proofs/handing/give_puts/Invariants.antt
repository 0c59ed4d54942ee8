use Rattle.std.proofs.Common.{◌≡◌, Some, slice_get, take}
use Rattle.region_engine.specs.declared.region.Region.{Region}
use Rattle.region_engine.specs.Deliveries.{AreGiven, AreRegions}
use Rattle.region_engine.proofs.handing.give_puts.Given as goal

-- each region has the puts so far
abbrev pub invariant-loop-place : goal.invariant-loop-place
invariant-loop-place l = record {
  regions : AreRegions l.job l.regions;
  given : (g : Region) → slice_get l.initial.regions l.giver ≡ Some g → AreGiven (take l.place g.puts.items) l.initial.regions l.regions;
}
