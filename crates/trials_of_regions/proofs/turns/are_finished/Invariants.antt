use Rattle.std.proofs.Common.{◌≡◌, ◌<◌, ℕ, Some, slice_get}
use Rattle.region_engine.specs.declared.region.Region.{Region}
use Rattle.region_engine.specs.Regions.{items_left}
use Rattle.trials_of_regions.proofs.turns.are_finished.Given as goal

-- none of the regions so far has an item left
abbrev pub invariant-loop-region : goal.invariant-loop-region
invariant-loop-region l = (r : ℕ) (g : Region) → r < l.region-index → slice_get l.regions r ≡ Some g → items_left l.job g ≡ 0
