-- All regions of a job, with desks of one table.
use Rattle.std.specs.Prelude.{◌≡◌, ℕ, List, Some, slice_get}
use Rattle.boundary_table.specs.Desk.{Which}
use Rattle.core_machine.specs.Core.{Task}
use Rattle.region_engine.specs.declared.region.Region.{Region}
use Rattle.region_engine.specs.Endings.{AreAllRegions}

pub record AreStanding (j : Task) (t : Which) (some : List Region) : Type 0 where
  pub all : AreAllRegions j some
  pub tables : (r : ℕ) (g : Region) → slice_get some r ≡ Some g → g.desk.table ≡ t
