use Rattle.std.specs.List.{AllZip}
use Rattle.std.proofs.Common.{take}
use Rattle.including_expand.specs.Needed.{IsNeedOf}
use Rattle.including_expand.proofs.needs.all_needs.Given as goal

-- the sets so far
abbrev pub invariant-loop-set : goal.invariant-loop-set
invariant-loop-set l = AllZip (IsNeedOf l.graph) (take l.set-index l.sets) l.needs.items
