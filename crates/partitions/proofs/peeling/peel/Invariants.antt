use Rattle.std.proofs.Common.{ℕ, ◌-◌, ◌<◌, vec_len}
use Rattle.std.specs.Prelude.{◌*◌, ◌^◌}
use Rattle.flat_grammar.specs.Partition.{PeelsAll}
use Rattle.partitions.specs.Peeling.{ArePeeled, AreAllLevels}
use Rattle.partitions.proofs.peeling.peel.Given as goal

-- the pairs so far, what is peeled with them, and that no fewer have all attributes
abbrev pub invariant-loop-x : goal.invariant-loop-x
invariant-loop-x l = record {
  each : AreAllLevels l.flat.symbols l.flat.rules l.x l.all.items;
  peeled : ArePeeled l.flat.symbols l.flat.rules l.x (2 * vec_len l.all) l.peeled;
  fewest : (k : ℕ) → 0 < k → k < vec_len l.all → PeelsAll l.flat.symbols l.flat.rules l.x (2 * k) → ⊥;
  one : 0 < vec_len l.all;
}

abbrev pub decreases-loop-x : goal.decreases-loop-x
decreases-loop-x l = 2 ^ 256 - l.peeled
