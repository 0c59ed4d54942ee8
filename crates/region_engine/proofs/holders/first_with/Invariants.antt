use Rattle.std.proofs.Common.{◌≡◌, ◌<◌, ℕ, Some, slice_get}
use Rattle.region_engine.specs.declared.region.Region.{Region}
use Rattle.region_engine.specs.Kept.{IsMarked}
use Rattle.region_engine.proofs.holders.first_with.Given as goal

-- none of the regions so far has it
abbrev pub invariant-loop-place : goal.invariant-loop-place
invariant-loop-place l = (r : ℕ) (g : Region) → r < l.place → slice_get l.regions r ≡ Some g → IsMarked g.values.marks.items l.key → ⊥
