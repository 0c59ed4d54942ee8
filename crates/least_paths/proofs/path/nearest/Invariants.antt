use Rattle.std.proofs.Common.{take}
use Rattle.least_paths.specs.Path.{IsNearest}
use Rattle.least_paths.proofs.path.nearest.Given as goal

-- the least so far
abbrev pub invariant-loop-x : goal.invariant-loop-x
invariant-loop-x l = IsNearest (take l.x-index l.row) l.dist l.d l.least
