use Rattle.std.proofs.Common.{◌≡◌, ◌<◌, ℕ, length, map, take, slice_index}
use Rattle.lido_base.specs.declared.ids.NodeId.{NodeId as Id}
use Rattle.tree_store.specs.Regions.{number_among}
use Rattle.subtree_split.proofs.regions.numbers.Given as goal

-- the split nodes so far have their numbers
abbrev pub invariant-loop-k : goal.invariant-loop-k
invariant-loop-k l = record {
  each : length l.numbers.items ≡ l.count;
  numbered : (n : ℕ) → n < l.count → slice_index l.numbers.items n ≡ number_among (map (λ (m : Id). m.0) (take l.k l.nodes)) n;
}
