use Rattle.std.proofs.Common.{arith, ◌≡◌, Some, ap, sym, ◌∙◌}
use Rattle.std.specs.Prelude.{slice_get}
use Rattle.std.proofs.lemmas.Option.{slice_get-get_or}
use Rattle.flat_grammar.specs.declared.flat.FlatComp.{FlatComp}
use Rattle.flat_grammar.specs.Rules.{dependencies}
use Rattle.flat_grammar.proofs.Lists.{contains-slice_get}
use Rattle.partitions.specs.RuleGraph.{IsAmongAt}
use Rattle.partitions.proofs.EdgesLemmas.{added-push, added-all}
use Rattle.partitions.proofs.edges.add_direct.Goals as goal

pub add_comp-requires : goal.add_comp-requires
add_comp-requires c =
    let comp : FlatComp = c.comp-item.result in
    let at : slice_get c.args.comps.now c.loop-comp.comp-index ≡ Some comp = slice_get-get_or c.args.comps.now c.loop-comp.comp-index comp c.loop-comp-test.true ∙ ap Some (sym c.comp-item.is) in
    let among = contains-slice_get c.args.comps.now c.loop-comp.comp-index comp at in
    record {
      small = c.requires.small;
      occurrences = λ o m. c.requires.occurrences comp o among m;
      goal = c.requires.goals comp among;
      vertex = λ v n. let h = c.requires.vertices comp v among n in omega (arith, h, c.loop-comp.invariant.count);
    }

pub loop-comp-preserved : goal.loop-comp-preserved
loop-comp-preserved c =
    let comp : FlatComp = c.comp-item.result in
    record {
      count = omega (arith, c.in_ok-add_comp.ensures.count, c.loop-comp.invariant.count);
      edges = added-push (λ (d : FlatComp) u v. IsAmongAt c.args.starts.now (dependencies d) d.goal u v) c.args.comps.now c.args.preds.now.items c.loop-comp.comp-index c.loop-comp.preds.items c.add_comp.new.preds.items comp c.loop-comp.invariant.edges
          (slice_get-get_or c.args.comps.now c.loop-comp.comp-index comp c.loop-comp-test.true ∙ ap Some (sym c.comp-item.is)) c.in_ok-add_comp.ensures.edges;
    }

pub returns-clause-edges : goal.returns-clause-edges
returns-clause-edges c = added-all (λ (d : FlatComp) u v. IsAmongAt c.args.starts.now (dependencies d) d.goal u v) c.args.comps.now c.args.preds.now.items c.loop-comp.comp-index c.loop-comp.preds.items c.loop-comp.invariant.edges c.loop-comp-test.false
