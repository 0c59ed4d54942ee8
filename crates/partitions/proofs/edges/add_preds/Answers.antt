use Rattle.std.proofs.Common.{arith}
use Rattle.std.proofs.lemmas.Option.{slice_get-get_or}
use Rattle.flat_grammar.proofs.Lists.{contains-slice_get}
use Rattle.flat_grammar.proofs.BitsLemmas.{iff_then}
use Rattle.partitions.specs.RuleGraph.{IsPairAt}
use Rattle.partitions.proofs.EdgesLemmas.{added-push, added-all, pair-is, or-same}
use Rattle.partitions.proofs.edges.add_preds.Goals as goal

pub number_of-requires-clause-occurrence : goal.number_of-requires-clause-occurrence
number_of-requires-clause-occurrence c = c.requires.occurrences _ (contains-slice_get c.args.from.now c.loop-o.o-index _ (slice_get-get_or c.args.from.now c.loop-o.o-index _ c.loop-o-test.true))

pub add_pred-requires : goal.add_pred-requires
add_pred-requires c = omega (arith, c.requires.vertex c.number_of-v.result c.number_of-v.ensures, c.loop-o.invariant.count)

pub loop-o-preserved : goal.loop-o-preserved
loop-o-preserved c = record {
  count = omega (arith, c.in_ok-add_pred.ensures.count, c.loop-o.invariant.count);
  edges = added-push (λ o u v. IsPairAt c.args.starts.now o c.args.to u v) c.args.from.now c.args.preds.now.items c.loop-o.o-index c.loop-o.preds.items c.add_pred.new.preds.items _ c.loop-o.invariant.edges
      (slice_get-get_or c.args.from.now c.loop-o.o-index _ c.loop-o-test.true)
      (λ u v. iff_then (c.in_ok-add_pred.ensures.edges u v) (or-same (pair-is c.args.starts.now _ c.args.to c.number_of.result c.number_of-v.result c.number_of.ensures c.number_of-v.ensures u v)));
}

pub returns-clause-edges : goal.returns-clause-edges
returns-clause-edges c = added-all (λ o u v. IsPairAt c.args.starts.now o c.args.to u v) c.args.from.now c.args.preds.now.items c.loop-o.o-index c.loop-o.preds.items c.loop-o.invariant.edges c.loop-o-test.false
