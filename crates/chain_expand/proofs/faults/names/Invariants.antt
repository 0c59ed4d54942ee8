use Rattle.std.proofs.Common.{◌≡◌, map, take}
use Rattle.chain_expand.specs.Needed.{name_in}
use Rattle.chain_expand.proofs.faults.names.Given as goal

-- the numbers so far
abbrev pub invariant-loop-x : goal.invariant-loop-x
invariant-loop-x l = l.names.items ≡ map (name_in l.rows) (take l.x-index l.path)
