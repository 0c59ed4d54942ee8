use Rattle.std.specs.Prelude.{slice_get}
use Rattle.std.proofs.Common.{◌≡◌, ◌<◌, ℕ, Some}
use Rattle.including_sets.specs.declared.sets.PairSet.{PairSet}
use Rattle.including_expand.specs.Needed.{HasNoPath}
use Rattle.including_expand.proofs.faults.first_fault.Given as goal

-- the root needs none of the sets so far
abbrev pub invariant-loop-set : goal.invariant-loop-set
invariant-loop-set l = (j : ℕ) (other : PairSet) → j < l.set-index → slice_get l.sets j ≡ Some other → HasNoPath l.graph l.tables.root.0 other
