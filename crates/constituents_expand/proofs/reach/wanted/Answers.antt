use Rattle.std.specs.Prelude.{IsTrue, ◌↔◌}
use Rattle.std.proofs.Common.{ℕ, List, sym, subst}
use Rattle.std.proofs.lemmas.Result.{IfOk-weaker}
use Rattle.least_paths.specs.Graph.{IsGraph, has_edge}
use Rattle.constituents_expand.specs.Reach.{up_edge}
use Rattle.constituents_expand.proofs.ReachLemmas.{AreKept, kept-graph, turned-graph, up-same, same-reach}
use Rattle.constituents_expand.proofs.reach.wanted.Goals as goal

pub turned-requires : goal.turned-requires
turned-requires c = subst IsGraph (sym c.deref.ensures.value) (kept-graph c.args.graph.now c.in_ok-edges.edges.items c.args.shields.now c.in_ok-edges.ensures.edges c.requires.graph c.in_ok-edges.ensures.count)

pub reaching-requires-clause-graph : goal.reaching-requires-clause-graph
reaching-requires-clause-graph c = subst IsGraph (sym c.deref-2.ensures.value) (turned-graph c.deref.result.now c.in_ok-back.back.items c.in_ok-back.ensures.edges c.in_ok-back.ensures.count)

pub returns-clause-exactly : goal.returns-clause-exactly
returns-clause-exactly c =
    let graph = c.args.graph.now in
    let shields = c.args.shields.now in
    let kept : AreKept c.deref.result.now graph shields = subst (λ (g : List (List ℕ)). AreKept g graph shields) (sym c.deref.ensures.value) c.in_ok-edges.ensures.edges in
    let same : (y x : ℕ) → IsTrue (has_edge c.deref-2.result.now y x) ↔ IsTrue (up_edge graph shields y x) =
    subst (λ (g : List (List ℕ)). (y x : ℕ) → IsTrue (has_edge g y x) ↔ IsTrue (up_edge graph shields y x)) (sym c.deref-2.ensures.value)
    (up-same graph c.deref.result.now shields kept c.in_ok-back.back.items c.in_ok-back.ensures.edges) in
    IfOk-weaker c.reaching.result _ _ (λ set h. same-reach c.args.starts.now set.items (has_edge c.deref-2.result.now) (up_edge graph shields) same h) c.reaching.ensures.exactly
