use Rattle.std.specs.Prelude.{IsTrue, ◌↔◌}
use Rattle.std.proofs.Common.{◌∙◌, ℕ, Bool, List, map, sym, subst, ap}
use Rattle.std.proofs.lemmas.Result.{IfOk-weaker}
use Rattle.least_paths.specs.Graph.{IsGraph, is_in}
use Rattle.constituents_expand.specs.Reach.{is_filled, IsChildOf}
use Rattle.constituents_expand.proofs.ReachLemmas.{AreKept, kept-graph, children}
use Rattle.constituents_expand.proofs.reach.children_of.Goals as goal

pub turned-requires : goal.turned-requires
turned-requires c = subst IsGraph (sym c.deref-2.ensures.value) (kept-graph c.args.graph.now c.in_ok-edges.edges.items c.deref.result.now c.in_ok-edges.ensures.edges c.requires.graph c.in_ok-edges.ensures.count)

pub returns-clause-exactly : goal.returns-clause-exactly
returns-clause-exactly c =
    let graph = c.args.graph.now in
    let set = c.args.set.now in
    let rest = c.deref.result.now in
    let edges = c.deref-2.result.now in
    let kept : AreKept edges graph rest = subst (λ (g : List (List ℕ)). AreKept g graph rest) (sym c.deref-2.ensures.value) c.in_ok-edges.ensures.edges in
    IfOk-weaker c.with_edges.result _ _ (λ found h y. subst (λ (l : List Bool). IsTrue (is_in l y) ↔ IsChildOf graph set y) (sym (h ∙ ap (map is_filled) c.deref-3.ensures.value))
    (children graph edges c.in_ok-back.back.items set rest c.requires.each (c.deref.ensures.value ∙ c.in_ok-rest.ensures) kept c.in_ok-back.ensures.edges y)) c.with_edges.ensures
