use Rattle.std.specs.Prelude.{IsTrue, ◌↔◌, nat_eq}
use Rattle.std.proofs.Common.{◌<◌, ℕ, List, Bool, sym, subst}
use Rattle.least_paths.specs.Graph.{IsGraph, has_edge, is_in}
use Rattle.least_paths.proofs.AgreeLemmas.{agree-least, agree-from}
use Rattle.rule_tables.specs.Needs.{uses_chain, passes_chain}
use Rattle.need_graphs.proofs.RangeLemmas.{root-below}
use Rattle.need_graphs.proofs.PathLemmas.{some-on, none-on}
use Rattle.need_graphs.proofs.paths.chain_path.Goals as goal

pub only-requires : goal.only-requires
only-requires c = subst (λ n. c.args.forced.now.tables.root.0 < n) (sym c.requires.each) (root-below c.args.forced.now.tables c.requires.forced.0 c.requires.forced.1.tables)

pub least_path-requires-clause-graph : goal.least_path-requires-clause-graph
least_path-requires-clause-graph c = subst IsGraph (sym c.deref.ensures.value) c.in_ok-graph.ensures.graph

pub returns-clause-least : goal.returns-clause-least
returns-clause-least c = some-on _ _ c.in_ok-found.found (λ path least env T are numbers users.
    let spec = c.args.forced.now.tables.spec in
    let chain = c.args.chain.0 in
    agree-least _ (nat_eq c.args.forced.now.tables.root.0) _ (uses_chain spec T chain) _ (passes_chain spec T chain)
    (subst (λ (s : List Bool). (x : ℕ) → IsTrue (is_in s x) ↔ IsTrue (nat_eq c.args.forced.now.tables.root.0 x)) (sym c.deref-2.ensures.value) c.in_ok-starts.ensures.exactly)
    users
    (subst (λ (g : List (List ℕ)). (u v : ℕ) → IsTrue (has_edge g u v) ↔ IsTrue (passes_chain spec T chain u v)) (sym c.deref.ensures.value) (c.in_ok-graph.ensures.edges env T are numbers))
    path.items least) c.in_ok-found.ensures.least

pub returns-clause-none : goal.returns-clause-none
returns-clause-none c = none-on _ _ c.in_ok-found.found (λ none env T are numbers users path from.
    let spec = c.args.forced.now.tables.spec in
    let chain = c.args.chain.0 in
    let root = c.args.forced.now.tables.root.0 in
    let edges : (u v : ℕ) → IsTrue (has_edge c.deref.result.now u v) ↔ IsTrue (passes_chain spec T chain u v) =
    subst (λ (g : List (List ℕ)). (u v : ℕ) → IsTrue (has_edge g u v) ↔ IsTrue (passes_chain spec T chain u v)) (sym c.deref.ensures.value) (c.in_ok-graph.ensures.edges env T are numbers) in
    let starts : (x : ℕ) → IsTrue (is_in c.deref-2.result.now x) ↔ IsTrue (nat_eq root x) =
    subst (λ (s : List Bool). (x : ℕ) → IsTrue (is_in s x) ↔ IsTrue (nat_eq root x)) (sym c.deref-2.ensures.value) c.in_ok-starts.ensures.exactly in
    none path (agree-from (uses_chain spec T chain) (is_in c.args.users.now) (passes_chain spec T chain) (has_edge c.deref.result.now) (λ y. (users y).1) (λ u v. (edges u v).1)
    (nat_eq root) (is_in c.deref-2.result.now) (λ x. (starts x).1) path from)) c.in_ok-found.ensures.none
