use Rattle.std.proofs.Common.{◌≡◌, ◌<◌, ◌≤◌, ℕ, length, map, slice_index}
use Rattle.lido_base.specs.declared.ids.NodeId.{NodeId as Id}
use Rattle.tree_store.specs.Regions.{number_among, region}
use Rattle.subtree_split.proofs.regions.regions_of.Given as goal

-- the nodes so far have their regions, and the others their numbers
abbrev pub invariant-loop-n : goal.invariant-loop-n
invariant-loop-n l = record {
  each : length l.regions.items ≡ length l.tree;
  before : (m : ℕ) → m < l.n → m < length l.tree → slice_index l.regions.items m ≡ region l.tree (map (λ (x : Id). x.0) l.nodes) m;
  behind : (m : ℕ) → l.n ≤ m → m < length l.tree → slice_index l.regions.items m ≡ number_among (map (λ (x : Id). x.0) l.nodes) m;
}
