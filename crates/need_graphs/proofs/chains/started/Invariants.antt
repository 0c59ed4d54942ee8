use Rattle.std.proofs.Common.{◌≡◌, map, take}
use Rattle.std.specs.List.{list_any}
use Rattle.need_graphs.specs.Starts.{starts}
use Rattle.need_graphs.proofs.chains.started.Given as goal

-- the rules so far
abbrev pub invariant-loop-forces : goal.invariant-loop-forces
invariant-loop-forces l = l.closed.items ≡ map (list_any (starts l.chains l.chain.0)) (take l.forces-index l.rows)
