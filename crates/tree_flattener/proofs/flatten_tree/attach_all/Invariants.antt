use Rattle.std.proofs.Common.{◌≡◌, ◌+◌, length}
use Rattle.tree_flattener.specs.Drafts.{IsWalk, IsPlaced}
use Rattle.tree_flattener.proofs.flatten_tree.attach_all.Given as goal

-- the first n nodes are attached, and the spot is at the last of them
abbrev pub invariant-loop-n : goal.invariant-loop-n
invariant-loop-n l = record {
  walk : IsWalk l.flat.symbols l.flat.rules l.flat.shapes l.written l.draft l.at;
  placed : IsPlaced l.written l.draft.flat l.draft.node_of;
  count : length l.draft.flat_of ≡ l.n;
  last : l.at.node + 1 ≡ l.n;
}
