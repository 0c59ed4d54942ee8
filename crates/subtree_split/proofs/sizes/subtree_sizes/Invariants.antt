use Rattle.std.proofs.Common.{◌≡◌, ◌<◌, ℕ, suc, length, map, filter, sum, take, vec_len, slice_index}
use Rattle.std.specs.Prelude.{nat_le}
use Rattle.lido_base.specs.Tree.{children}
use Rattle.subtree_split.specs.SplitNodes.{subtree_size}
use Rattle.subtree_split.proofs.sizes.subtree_sizes.Given as goal

-- each node counts itself and the subtrees of its children from n on; the nodes before n count all nodes together
abbrev pub invariant-loop-n : goal.invariant-loop-n
invariant-loop-n l = record {
  count : vec_len l.sizes ≡ length l.tree;
  total : sum (take l.n l.sizes.items) ≡ length l.tree;
  counted : (m : ℕ) → m < length l.tree → slice_index l.sizes.items m ≡ suc (sum (map (subtree_size l.tree) (filter (nat_le l.n) (children l.tree m))));
}
