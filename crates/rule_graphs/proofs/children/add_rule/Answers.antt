use Rattle.std.proofs.Common.{◌∙◌, Some, sym, ap, get_or, arith}
use Rattle.std.proofs.lemmas.Option.{slice_get-get_or}
use Rattle.std.proofs.lemmas.List.{length-set}
use Rattle.rule_graphs.proofs.ChildrenLemmas.{rule-next, rule-all}
use Rattle.rule_graphs.proofs.children.add_rule.Goals as goal

pub loop-s-preserved : goal.loop-s-preserved
loop-s-preserved c =
    let a = c.args.rule.now.left.0 in
    record {
      count = length-set c.loop-s.graph.items a c.push.new.self ∙ c.loop-s.invariant.count;
      edges = rule-next c.args.graph.now.items c.loop-s.graph.items c.push.new.self c.index_mut.result.now a c.loop-s.s-index (get_or c.as_slice-right.result.now c.loop-s.s-index (record { 0 = 0 })) c.as_slice-right.result.now
          (slice_get-get_or c.as_slice-right.result.now c.loop-s.s-index (record { 0 = 0 }) c.loop-s-test.true)
          (slice_get-get_or c.loop-s.graph.items a c.index_mut.result.now (omega (arith, c.requires, c.loop-s.invariant.count)) ∙ ap Some (sym c.index_mut.ensures.value))
          c.in_ok-push.ensures.ok c.loop-s.invariant.edges;
    }

pub returns-clause-edges : goal.returns-clause-edges
returns-clause-edges c = rule-all c.args.graph.now.items c.loop-s.graph.items c.args.rule.now.left.0 c.loop-s.s-index c.as_slice-right.result.now c.args.rule.now.right c.loop-s-test.false c.as_slice-right.ensures c.loop-s.invariant.edges
