use Rattle.std.specs.Prelude.{Contains, Bool, map}
use Rattle.std.specs.List.{list_any}
use Rattle.std.proofs.Common.{◌≡◌, ◌∙◌, ◌<◌, length, List, ap, sym, subst}
use Rattle.flat_grammar.specs.declared.flat.FlatRule.{FlatRule}
use Rattle.rule_graphs.specs.Children.{IsRuleEdge}
use Rattle.need_graphs.specs.Starts.{starts}
use Rattle.need_graphs.proofs.EdgeLemmas.{left-inside, right-inside}
use Rattle.need_graphs.proofs.StartLemmas.{closed-each, passes-edges}
use Rattle.need_graphs.proofs.chains.chain_graph.Goals as goal

pub rule_graph-requires-clause-left : goal.rule_graph-requires-clause-left
rule_graph-requires-clause-left c r m = subst (λ n. r.left.0 < n) (sym c.len.ensures)
    (left-inside c.args.forced.now.tables c.requires.0 c.requires.1.tables r (subst (λ (l : List FlatRule). Contains l r) c.as_slice-plain.ensures m))

pub rule_graph-requires-clause-right : goal.rule_graph-requires-clause-right
rule_graph-requires-clause-right c r s m k = subst (λ n. s.0 < n) (sym c.len.ensures)
    (right-inside c.args.forced.now.tables c.requires.0 c.requires.1.tables r s (subst (λ (l : List FlatRule). Contains l r) c.as_slice-plain.ensures m) k)

pub rule_graph-requires-clause-each : goal.rule_graph-requires-clause-each
rule_graph-requires-clause-each c =
    ap (λ (l : List Bool). length l) (c.deref.ensures.value ∙ c.in_ok-closed.ensures) ∙ closed-each c.requires.0 c.args.forced.now c.requires.1 c.args.chain.0
    ∙ ap (λ (l : List FlatRule). length l) (sym c.as_slice-plain.ensures)

pub returns-clause-edges : goal.returns-clause-edges
returns-clause-edges c env T are numbers x y =
    let e = c.in_ok-graph.ensures.edges x y in
    let closed = map (list_any (starts c.args.forced.now.tables.spec.chains c.args.chain.0)) c.args.forced.now.comps in
    let n = length c.as_slice-plain.result.now in
    let same = c.as_slice-plain.ensures in
    let which : c.deref.result.now ≡ closed = c.deref.ensures.value ∙ c.in_ok-closed.ensures in
    let passes = passes-edges env c.args.forced.now are c.args.chain.0 T numbers n x y (ap (λ (l : List FlatRule). length l) same) in (
      (λ h. passes.0 (subst (λ (s : List Bool). IsRuleEdge c.args.forced.now.tables.plain s n x y) which (subst (λ (l : List FlatRule). IsRuleEdge l c.deref.result.now n x y) same (e.0 h)))),
      (λ h. e.1 (subst (λ (l : List FlatRule). IsRuleEdge l c.deref.result.now n x y) (sym same) (subst (λ (s : List Bool). IsRuleEdge c.args.forced.now.tables.plain s n x y) (sym which) (passes.1 h)))),
    )
