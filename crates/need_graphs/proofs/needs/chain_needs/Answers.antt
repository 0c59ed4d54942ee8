use Rattle.std.specs.Prelude.{IsTrue, ◌↔◌}
use Rattle.std.proofs.Common.{ℕ, List, sym, subst}
use Rattle.least_paths.specs.Graph.{IsGraph, has_edge, is_in}
use Rattle.least_paths.proofs.AgreeLemmas.{agree-Reaches}
use Rattle.rule_tables.specs.Needs.{uses_chain, passes_chain}
use Rattle.need_graphs.proofs.needs.chain_needs.Goals as goal

pub reaching-requires-clause-graph : goal.reaching-requires-clause-graph
reaching-requires-clause-graph c = subst IsGraph (sym c.deref.ensures.value) c.in_ok-graph.ensures.graph

pub returns-clause-exactly : goal.returns-clause-exactly
returns-clause-exactly c env T are numbers users x =
    let spec = c.args.forced.now.tables.spec in
    let chain = c.args.chain.0 in
    let edges : (u v : ℕ) → IsTrue (has_edge c.deref.result.now u v) ↔ IsTrue (passes_chain spec T chain u v) =
    subst (λ (g : List (List ℕ)). (u v : ℕ) → IsTrue (has_edge g u v) ↔ IsTrue (passes_chain spec T chain u v)) (sym c.deref.ensures.value) (c.in_ok-graph.ensures.edges env T are numbers) in
    let e = c.in_ok-set.ensures.exactly x in (
      (λ h. agree-Reaches (is_in c.args.users.now) (uses_chain spec T chain) (has_edge c.deref.result.now) (passes_chain spec T chain) (λ y. (users y).0) (λ u v. (edges u v).0) x (e.0 h)),
      (λ h. e.1 (agree-Reaches (uses_chain spec T chain) (is_in c.args.users.now) (passes_chain spec T chain) (has_edge c.deref.result.now) (λ y. (users y).1) (λ u v. (edges u v).1) x h)),
    )
