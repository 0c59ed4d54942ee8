use Rattle.std.proofs.Common.{◌≡◌}
use Rattle.core_machine.proofs.RoomLemmas.{cells_before}
use Rattle.region_engine.proofs.sizes.cells_of_region.Given as goal

-- those of the nodes so far
abbrev pub invariant-loop-node : goal.invariant-loop-node
invariant-loop-node l = l.total ≡ cells_before l.job l.number l.node
