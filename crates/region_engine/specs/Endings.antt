-- The regions of a job with nothing left.
use Rattle.std.specs.Prelude.{◌≡◌, ℕ, suc, List, length, Some, slice_get}
use Rattle.flat_grammar.specs.WholeOrder.{Instance}
use Rattle.core_machine.specs.Machine.{final}
use Rattle.core_machine.specs.Core.{Task, machine}
use Rattle.region_engine.specs.declared.region.Region.{Region}
use Rattle.region_engine.specs.Behind.{list}
use Rattle.region_engine.specs.Kept.{stored, IsBehind}
use Rattle.region_engine.specs.Regions.{items_left, IsRegionOf}

module _ (j : Task) where
  -- These are all regions of the job, each once and by its number.
  pub record AreAllRegions (some : List Region) : Type 0 where
    pub count : length some ≡ suc (length j.nodes)
    pub each : (r : ℕ) (g : Region) → slice_get some r ≡ Some g → IsRegionOf j r g

  -- None of them has an item left.
  pub record HaveNothingLeft (some : List Region) : Type 0 where
    pub each : (r : ℕ) (g : Region) → slice_get some r ≡ Some g → items_left j g ≡ 0

  -- Each region has the values and the room that it has behind its whole list.
  pub record AreDone (some : List Region) : Type 0 where
    pub count : length some ≡ suc (length j.nodes)
    pub each : (r : ℕ) (g : Region) → slice_get some r ≡ Some g → IsBehind j r (length (list j r)) g.values g.bench.room

  -- the region at this place has the instance's value of the final state
  abbrev pub IsHeldBy : List Region → Instance → ℕ → Type 0
  IsHeldBy some i r = (g : Region) × (slice_get some r ≡ Some g)
      × (stored j g.values.region g.values.own.items g.values.shared.items i ≡ (final (machine j)).values i)
