use Rattle.std.proofs.Common.{◌≡◌, ◌+◌, length}
use Rattle.core_machine.specs.Cursors.{left}
use Rattle.region_engine.specs.Regions.{IsRegion, IsSame}
use Rattle.region_engine.proofs.region.Region.run.Given as goal

-- the region went on by what it used
abbrev pub invariant-loop-item : goal.invariant-loop-item
invariant-loop-item l = record {
  region : IsRegion l.job l.self;
  same : IsSame l.initial.self l.self;
  used : l.self.position ≡ l.initial.self.position + l.used;
}

abbrev pub decreases-loop-item : goal.decreases-loop-item
decreases-loop-item l = length (left l.job l.self.cursor)
