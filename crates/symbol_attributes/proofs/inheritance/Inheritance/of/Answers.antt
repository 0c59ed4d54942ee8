use Rattle.std.specs.Prelude.{◌↔◌}
use Rattle.std.proofs.Common.{ℕ, List, sym, subst, length}
use Rattle.lido_syntax.specs.declared.spec.SymbolItem.{SymbolItem}
use Rattle.least_paths.specs.Graph.{IsGraph, IsEdge}
use Rattle.symbol_attributes.specs.Inheritance.{AreNumberedIn, AreRows, IsDirectEdge}
use Rattle.symbol_attributes.proofs.InheritanceLemmas.{is-graph, is-inheritance}
use Rattle.symbol_attributes.proofs.inheritance.Inheritance.of.Goals as goal

pub direct-requires : goal.direct-requires
direct-requires c = subst (λ (items : List SymbolItem). AreNumberedIn c.args.numbers.now items) (sym c.as_slice.ensures) c.requires

pub rows-requires : goal.rows-requires
rows-requires c = subst IsGraph (sym c.deref.ensures.value)
    (is-graph c.args.spec.now c.args.numbers.now c.requires c.in_ok-graph.graph.items c.in_ok-graph.ensures.count
    (subst (λ (items : List SymbolItem). (u v : ℕ) → IsEdge c.in_ok-graph.graph.items u v ↔ IsDirectEdge c.args.numbers.now items u v) c.as_slice.ensures c.in_ok-graph.ensures.edges))

pub returns : goal.returns
returns c = is-inheritance c.args.spec.now c.args.numbers.now c.requires c.in_ok-graph.graph.items c.in_ok-graph.ensures.count
    (subst (λ (items : List SymbolItem). (u v : ℕ) → IsEdge c.in_ok-graph.graph.items u v ↔ IsDirectEdge c.args.numbers.now items u v) c.as_slice.ensures c.in_ok-graph.ensures.edges)
    (record { heirs = c.in_ok-heirs.heirs })
    (subst (λ (g : List (List ℕ)). AreRows g (length g) c.in_ok-heirs.heirs.items) c.deref.ensures.value c.in_ok-heirs.ensures)
