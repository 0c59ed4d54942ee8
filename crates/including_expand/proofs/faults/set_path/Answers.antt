use Rattle.std.specs.Prelude.{IsTrue, ◌↔◌, nat_eq}
use Rattle.std.proofs.Common.{ℕ, List, Bool, sym, subst}
use Rattle.least_paths.specs.Graph.{IsGraph, has_edge, is_in}
use Rattle.least_paths.proofs.AgreeLemmas.{agree-least, agree-from}
use Rattle.need_graphs.proofs.PathLemmas.{some-on, none-on}
use Rattle.remote_lists.proofs.ReachLemmas.{AreKept, kept-graph, down-same}
use Rattle.including_expand.specs.Needed.{passes}
use Rattle.including_expand.proofs.faults.set_path.Goals as goal

pub least_path-requires-clause-graph : goal.least_path-requires-clause-graph
least_path-requires-clause-graph c = subst IsGraph (sym c.deref.ensures.value)
    (kept-graph c.args.graph.now c.in_ok-edges.edges.items c.as_slice.result.now c.in_ok-edges.ensures.edges c.requires.graph c.in_ok-edges.ensures.count)

pub returns-clause-least : goal.returns-clause-least
returns-clause-least c = some-on _ _ c.in_ok-found.found (λ path least.
    let graph = c.args.graph.now in
    let set = c.args.set.now in
    let root = c.args.root in
    let kept : AreKept c.deref.result.now graph set.listed =
    subst (λ (l : List Bool). AreKept c.deref.result.now graph l) c.as_slice.ensures (subst (λ (g : List (List ℕ)). AreKept g graph c.as_slice.result.now) (sym c.deref.ensures.value) c.in_ok-edges.ensures.edges) in
    let starts : (x : ℕ) → IsTrue (is_in c.deref-2.result.now x) ↔ IsTrue (nat_eq root x) =
    subst (λ (s : List Bool). (x : ℕ) → IsTrue (is_in s x) ↔ IsTrue (nat_eq root x)) (sym c.deref-2.ensures.value) c.in_ok-starts.ensures.exactly in
    let users : (x : ℕ) → IsTrue (is_in c.as_slice-2.result.now x) ↔ IsTrue (is_in set.users x) =
    subst (λ (l : List Bool). (x : ℕ) → IsTrue (is_in c.as_slice-2.result.now x) ↔ IsTrue (is_in l x)) c.as_slice-2.ensures (λ x. ((λ h. h), (λ h. h))) in
    agree-least _ (nat_eq root) _ (is_in set.users) _ (passes graph set) starts users (down-same graph c.deref.result.now set.listed kept) path.items least) c.in_ok-found.ensures.least

pub returns-clause-none : goal.returns-clause-none
returns-clause-none c = none-on _ _ c.in_ok-found.found (λ none path from.
    let graph = c.args.graph.now in
    let set = c.args.set.now in
    let root = c.args.root in
    let kept : AreKept c.deref.result.now graph set.listed =
    subst (λ (l : List Bool). AreKept c.deref.result.now graph l) c.as_slice.ensures (subst (λ (g : List (List ℕ)). AreKept g graph c.as_slice.result.now) (sym c.deref.ensures.value) c.in_ok-edges.ensures.edges) in
    let starts : (x : ℕ) → IsTrue (is_in c.deref-2.result.now x) ↔ IsTrue (nat_eq root x) =
    subst (λ (s : List Bool). (x : ℕ) → IsTrue (is_in s x) ↔ IsTrue (nat_eq root x)) (sym c.deref-2.ensures.value) c.in_ok-starts.ensures.exactly in
    let users : (x : ℕ) → IsTrue (is_in set.users x) → IsTrue (is_in c.as_slice-2.result.now x) =
    subst (λ (l : List Bool). (x : ℕ) → IsTrue (is_in l x) → IsTrue (is_in c.as_slice-2.result.now x)) c.as_slice-2.ensures (λ x h. h) in
    let edges = down-same graph c.deref.result.now set.listed kept in
    none path (agree-from (is_in set.users) (is_in c.as_slice-2.result.now) (passes graph set) (has_edge c.deref.result.now) users (λ u v. (edges u v).1)
    (nat_eq root) (is_in c.deref-2.result.now) (λ x. (starts x).1) path from)) c.in_ok-found.ensures.none
