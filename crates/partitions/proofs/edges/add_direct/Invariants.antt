use Rattle.std.proofs.Common.{◌≡◌, length}
use Rattle.flat_grammar.specs.declared.flat.FlatComp.{FlatComp}
use Rattle.flat_grammar.specs.Rules.{dependencies}
use Rattle.partitions.specs.RuleGraph.{IsAmongAt}
use Rattle.partitions.proofs.EdgesLemmas.{AreAdded}
use Rattle.partitions.proofs.edges.add_direct.Given as goal

-- the edges so far
abbrev pub invariant-loop-comp : goal.invariant-loop-comp
invariant-loop-comp l = record {
  count : length l.preds.items ≡ length l.fn.preds.items;
  edges : AreAdded (λ (c : FlatComp) u v. IsAmongAt l.starts (dependencies c) c.goal u v) l.comps l.fn.preds.items l.comp-index l.preds.items;
}
