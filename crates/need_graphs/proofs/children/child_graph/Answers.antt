use Rattle.std.specs.Prelude.{Contains, IsTrue}
use Rattle.std.proofs.Common.{◌<◌, length, List, ap, sym, subst}
use Rattle.flat_grammar.specs.declared.flat.FlatRule.{FlatRule}
use Rattle.least_paths.specs.Graph.{is_in}
use Rattle.rule_graphs.specs.Children.{IsRuleEdge}
use Rattle.need_graphs.proofs.EdgeLemmas.{left-inside, right-inside, children}
use Rattle.need_graphs.proofs.children.child_graph.Goals as goal

pub rule_graph-requires-clause-left : goal.rule_graph-requires-clause-left
rule_graph-requires-clause-left c r m = subst (λ n. r.left.0 < n) (sym c.len.ensures) (left-inside c.args.tables.now c.requires.0 c.requires.1 r (subst (λ (l : List FlatRule). Contains l r) c.as_slice-plain.ensures m))

pub rule_graph-requires-clause-right : goal.rule_graph-requires-clause-right
rule_graph-requires-clause-right c r s m k = subst (λ n. s.0 < n) (sym c.len.ensures) (right-inside c.args.tables.now c.requires.0 c.requires.1 r s (subst (λ (l : List FlatRule). Contains l r) c.as_slice-plain.ensures m) k)

pub returns-clause-edges : goal.returns-clause-edges
returns-clause-edges c x y =
    let t = c.args.tables.now in
    let e = c.in_ok-graph.ensures.edges x y in
    let same = c.as_slice-plain.ensures in
    let are = children t c.requires.0 c.requires.1 c.deref.result.now (length c.as_slice-plain.result.now) x y (ap (λ (l : List FlatRule). length l) same)
    (λ i h. c.in_ok-closed.ensures.empty i (subst (λ s. IsTrue (is_in s i)) c.deref.ensures.value h)) in (
      (λ h. are.0 (subst (λ (l : List FlatRule). IsRuleEdge l c.deref.result.now (length c.as_slice-plain.result.now) x y) same (e.0 h))),
      (λ h. e.1 (subst (λ (l : List FlatRule). IsRuleEdge l c.deref.result.now (length c.as_slice-plain.result.now) x y) (sym same) (are.1 h))),
    )
