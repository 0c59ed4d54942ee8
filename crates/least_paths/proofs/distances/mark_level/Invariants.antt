use Rattle.std.proofs.Common.{take}
use Rattle.std.specs.Prelude.{flat_map}
use Rattle.least_paths.specs.Graph.{row_of}
use Rattle.least_paths.specs.Distances.{IsMarked}
use Rattle.least_paths.proofs.distances.mark_level.Given as goal

-- those before the vertices so far
abbrev pub invariant-loop-y : goal.invariant-loop-y
invariant-loop-y l = IsMarked l.fn.dist.items l.dist.items (flat_map (row_of l.back) (take l.y-index l.front)) l.d l.added.items
