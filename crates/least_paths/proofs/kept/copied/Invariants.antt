use Rattle.std.proofs.Common.{◌≡◌, take}
use Rattle.least_paths.proofs.kept.copied.Given as goal

-- the vertices so far
abbrev pub invariant-loop-x : goal.invariant-loop-x
invariant-loop-x l = l.copy.items ≡ take l.x-index l.row
