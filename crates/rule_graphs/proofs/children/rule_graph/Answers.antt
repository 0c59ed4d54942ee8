use Rattle.std.proofs.Common.{◌≡◌, ◌∙◌, Some, ◌+◌, length, List, ℕ, sym, ap, subst, arith}
use Rattle.std.specs.Prelude.{slice_get, ◌↔◌, false}
use Rattle.std.specs.Global.{Vec}
use Rattle.std.proofs.lemmas.Option.{slice_get-get_or, unwrap_or-slice_get}
use Rattle.lido_base.proofs.Lists.{place-contains}
use Rattle.least_paths.specs.Graph.{IsEdge}
use Rattle.rule_graphs.specs.Children.{IsRuleEdge}
use Rattle.rule_graphs.proofs.ChildrenLemmas.{open-next, closed-next, all-rules, graph-of}
use Rattle.rule_graphs.proofs.children.rule_graph.Goals as goal
use Rattle.rule_graphs.proofs.children.rule_graph.Goals.{then-not-closed-i+in_ok-add_rule, else-not-closed-i}

pub loop-i-init : goal.loop-i-init
loop-i-init c = record {
  size = c.in_ok-graph.ensures.count;
  edges = λ x y. ((λ m. absurd (c.in_ok-graph.ensures.edges x y m)), (λ e. absurd (let l = e.below in omega arith)));
}

pub add_rule-requires : goal.add_rule-requires
add_rule-requires c =
    let at : slice_get c.args.rules.now c.loop-i.i ≡ Some c.index-rules-i.result = slice_get-get_or c.args.rules.now c.loop-i.i c.index-rules-i.result c.loop-i-test.true ∙ ap Some (sym c.index-rules-i.is) in
    omega (arith, c.requires.left c.index-rules-i.result (place-contains c.args.rules.now c.loop-i.i c.index-rules-i.result at), c.loop-i.invariant.size)

pub loop-i-preserved : goal.loop-i-preserved
loop-i-preserved c = record {
  size = elim c.if-not-closed-i.branch as (λ _. length c.if-not-closed-i.graph.items ≡ c.args.count) [
    | then-not-closed-i+in_ok-add_rule w ↦ ap (λ (g : Vec (List ℕ)). length g.items) w.graph-is ∙ w.in_ok-add_rule.ensures.count ∙ c.loop-i.invariant.size
    | else-not-closed-i w ↦ ap (λ (g : Vec (List ℕ)). length g.items) w.graph-is ∙ c.loop-i.invariant.size
  ];
  edges = elim c.if-not-closed-i.branch as (λ _. (x y : ℕ) → IsEdge c.if-not-closed-i.graph.items x y ↔ IsRuleEdge c.args.rules.now c.args.closed.now (c.loop-i.i + 1) x y) [
    | then-not-closed-i+in_ok-add_rule w ↦ subst (λ (g : Vec (List ℕ)). (x y : ℕ) → IsEdge g.items x y ↔ IsRuleEdge c.args.rules.now c.args.closed.now (c.loop-i.i + 1) x y) (sym w.graph-is)
        (open-next c.args.rules.now c.args.closed.now c.loop-i.i c.loop-i.graph.items w.add_rule.new.graph.items w.index-rules-i.result
        (slice_get-get_or c.args.rules.now c.loop-i.i w.index-rules-i.result c.loop-i-test.true ∙ ap Some (sym w.index-rules-i.is))
        (unwrap_or-slice_get c.args.closed.now c.loop-i.i false ∙ w.if-not-closed-i.true) c.loop-i.invariant.edges w.in_ok-add_rule.ensures.edges)
    | else-not-closed-i w ↦ subst (λ (g : Vec (List ℕ)). (x y : ℕ) → IsEdge g.items x y ↔ IsRuleEdge c.args.rules.now c.args.closed.now (c.loop-i.i + 1) x y) (sym w.graph-is)
        (closed-next c.args.rules.now c.args.closed.now c.loop-i.i c.loop-i.graph.items (unwrap_or-slice_get c.args.closed.now c.loop-i.i false ∙ w.if-not-closed-i.false) c.loop-i.invariant.edges)
  ];
}

pub returns-clause-graph : goal.returns-clause-graph
returns-clause-graph c = graph-of c.args.rules.now c.args.closed.now c.loop-i.i c.args.count c.loop-i.graph.items c.loop-i.invariant.size c.loop-i.invariant.edges c.requires.right

pub returns-clause-edges : goal.returns-clause-edges
returns-clause-edges c = all-rules c.args.rules.now c.args.closed.now c.loop-i.i (length c.args.rules.now) c.loop-i.graph.items (omega (arith, c.loop-i-test.false, c.loop-i.auto.i-end)) c.loop-i.invariant.edges
