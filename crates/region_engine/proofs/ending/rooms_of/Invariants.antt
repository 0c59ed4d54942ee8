use Rattle.std.proofs.Common.{◌≡◌, ◌≤◌, map, length}
use Rattle.std.specs.Prelude.{vec_capacity}
use Rattle.region_engine.specs.declared.region.Region.{Region}
use Rattle.region_engine.proofs.ending.rooms_of.Given as goal

-- the rooms so far
abbrev pub invariant-loop-region : goal.invariant-loop-region
invariant-loop-region l = record {
  space : length l.fn.regions.items ≤ vec_capacity l.rooms;
  rooms : l.rooms.items ≡ map (λ (g : Region). g.bench.room) l.yielded;
}
