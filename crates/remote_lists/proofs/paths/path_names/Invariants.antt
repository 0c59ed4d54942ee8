use Rattle.std.proofs.Common.{◌≡◌, map, take}
use Rattle.remote_lists.specs.Paths.{name_in}
use Rattle.remote_lists.proofs.paths.path_names.Given as goal

-- the numbers so far
abbrev pub invariant-loop-x : goal.invariant-loop-x
invariant-loop-x l = l.names.items ≡ map (name_in l.rows) (take l.x-index l.path)
