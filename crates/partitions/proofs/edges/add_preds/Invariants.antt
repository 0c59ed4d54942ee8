use Rattle.std.proofs.Common.{◌≡◌, length}
use Rattle.partitions.specs.RuleGraph.{IsPairAt}
use Rattle.partitions.proofs.EdgesLemmas.{AreAdded}
use Rattle.partitions.proofs.edges.add_preds.Given as goal

-- the edges so far
abbrev pub invariant-loop-o : goal.invariant-loop-o
invariant-loop-o l = record {
  count : length l.preds.items ≡ length l.fn.preds.items;
  edges : AreAdded (λ o u v. IsPairAt l.starts o l.fn.to u v) l.from l.fn.preds.items l.o-index l.preds.items;
}
