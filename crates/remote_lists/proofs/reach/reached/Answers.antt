use Rattle.std.specs.Prelude.{IsTrue, ◌↔◌}
use Rattle.std.proofs.Common.{ℕ, List, sym, subst}
use Rattle.std.proofs.lemmas.Result.{IfOk-weaker}
use Rattle.least_paths.specs.Graph.{IsGraph, has_edge}
use Rattle.remote_lists.specs.Reach.{down_edge}
use Rattle.remote_lists.proofs.ReachLemmas.{kept-graph, down-same, same-reach}
use Rattle.remote_lists.proofs.reach.reached.Goals as goal

pub reaching-requires-clause-graph : goal.reaching-requires-clause-graph
reaching-requires-clause-graph c = subst IsGraph (sym c.deref.ensures.value) (kept-graph c.args.graph.now c.in_ok-edges.edges.items c.args.closed.now c.in_ok-edges.ensures.edges c.requires.graph c.in_ok-edges.ensures.count)

pub returns-clause-exactly : goal.returns-clause-exactly
returns-clause-exactly c =
    let graph = c.args.graph.now in
    let closed = c.args.closed.now in
    let same : (x y : ℕ) → IsTrue (has_edge c.deref.result.now x y) ↔ IsTrue (down_edge graph closed x y) =
    subst (λ (g : List (List ℕ)). (x y : ℕ) → IsTrue (has_edge g x y) ↔ IsTrue (down_edge graph closed x y)) (sym c.deref.ensures.value)
    (down-same graph c.in_ok-edges.edges.items closed c.in_ok-edges.ensures.edges) in
    IfOk-weaker c.reaching.result _ _ (λ set h. same-reach c.args.sources.now set.items (has_edge c.deref.result.now) (down_edge graph closed) same h) c.reaching.ensures.exactly
