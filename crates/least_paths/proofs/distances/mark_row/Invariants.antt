use Rattle.std.proofs.Common.{◌≡◌, ℕ, List, ◌++◌, take}
use Rattle.least_paths.specs.Distances.{IsMarked}
use Rattle.least_paths.proofs.distances.mark_row.Given as goal

-- the vertices so far
abbrev pub invariant-loop-x : goal.invariant-loop-x
invariant-loop-x l = (more : List ℕ) × (l.added.items ≡ l.fn.added.items ++ more) × IsMarked l.fn.dist.items l.dist.items (take l.x-index l.row) l.d more
