use Rattle.std.specs.List.{AllZip}
use Rattle.std.proofs.Common.{take}
use Rattle.including_sets.specs.Made.{IsMade}
use Rattle.including_sets.proofs.sets.all_sets.Given as goal

-- the sets so far
abbrev pub invariant-loop-first : goal.invariant-loop-first
invariant-loop-first l = AllZip (IsMade l.forced l.symbols l.listings) (take l.first-index l.kept) l.sets.items
