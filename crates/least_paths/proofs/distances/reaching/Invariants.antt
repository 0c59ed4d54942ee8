use Rattle.std.proofs.Common.{◌≡◌, take, map}
use Rattle.std.specs.Prelude.{is_some}
use Rattle.least_paths.proofs.distances.reaching.Given as goal

-- the vertices so far
abbrev pub invariant-loop-d : goal.invariant-loop-d
invariant-loop-d l = l.set.items ≡ map is_some (take l.d-index l.d-items)
