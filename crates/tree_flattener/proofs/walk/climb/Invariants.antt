use Rattle.std.proofs.Common.{◌≡◌}
use Rattle.tree_flattener.specs.Drafts.{IsWalk, IsOnPath, IsPlaced}
use Rattle.tree_flattener.proofs.walk.climb.Given as goal

-- the spot is between the first one and `to`
abbrev pub invariant-loop-at : goal.invariant-loop-at
invariant-loop-at l = record {
  walk : IsWalk l.flat.symbols l.flat.rules l.flat.shapes l.written l.draft l.at;
  placed : IsPlaced l.written l.draft.flat l.draft.node_of;
  around : IsOnPath l.written l.at.node l.to;
  below : IsOnPath l.written l.fn.from.node l.at.node;
  same : l.draft.flat_of ≡ l.initial.draft.flat_of;
}

-- the spot's node gets less
abbrev pub decreases-loop-at : goal.decreases-loop-at
decreases-loop-at l = l.at.node
