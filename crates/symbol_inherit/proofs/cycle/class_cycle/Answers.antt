use Rattle.std.specs.Prelude.{IfSome, IfNone}
use Rattle.std.proofs.Common.{ap, sym, subst, ◌∙◌, List, ℕ, map, Vec, Global, Option}
use Rattle.least_paths.specs.Graph.{IsGraph, has_edge}
use Rattle.lido_base.specs.Reach.{IsLeastCycle, IsClosedPath}
use Rattle.lido_base.specs.declared.ids.StrId.{StrId}
use Rattle.lido_syntax.specs.declared.fault.SpecFault.TheVariants as Fault
use Rattle.rule_tables.specs.declared.table.SymbolRow.{SymbolRow}
use Rattle.rule_tables.specs.InForceFaults.{IsClassCycle}
use Rattle.symbol_inherit.specs.Classes.{graph_of}
use Rattle.symbol_inherit.specs.Rows.{name_in}
use Rattle.symbol_inherit.proofs.HeirLemmas.{is-graph}
use Rattle.symbol_inherit.proofs.CycleLemmas.{is-cycle, no-cycle}
use Rattle.symbol_inherit.proofs.cycle.class_cycle.Goals as goal

pub least_cycle-requires : goal.least_cycle-requires
least_cycle-requires c = subst IsGraph (sym (c.deref.ensures.value ∙ c.in_ok-graph.ensures ∙ ap graph_of c.as_slice-rows.ensures)) (is-graph c.args.tables.now c.requires.0 c.requires.1)

pub returns-in-Some-clause-cycle : goal.returns-in-Some-clause-cycle
returns-in-Some-clause-cycle c = λ T same.
    let graph = c.deref.ensures.value ∙ c.in_ok-graph.ensures ∙ ap graph_of c.as_slice-rows.ensures in
    let least = subst (λ (o : Option (Vec ℕ Global)). IfSome o (λ cycle. IsLeastCycle (has_edge c.deref.result.now) cycle.items)) c.in-Some.is c.in_ok-cycle.ensures.least in
    let there = subst (λ (g : List (List ℕ)). IsLeastCycle (has_edge g) c.in-Some.cycle.items) graph least in
    let path = c.in_ok-names-in-Some.ensures ∙ ap (λ (rows : List SymbolRow). map (name_in rows) c.deref-in-Some.result.now) c.as_slice-rows.ensures
    ∙ ap (map (name_in c.args.tables.now.symbols)) c.deref-in-Some.ensures.value in
    subst (λ (p : List StrId). IsClassCycle c.args.tables.now.spec T (Fault.ClassCycle p)) (sym path)
    (is-cycle c.args.tables.now c.requires.0 c.requires.1 T same c.in-Some.cycle.items there)

pub returns-clause-none : goal.returns-clause-none
returns-clause-none c = λ T fault same.
    let graph = c.deref.ensures.value ∙ c.in_ok-graph.ensures ∙ ap graph_of c.as_slice-rows.ensures in
    let none = subst (λ (o : Option (Vec ℕ Global)). IfNone o ((cycle : List ℕ) → ¬ IsClosedPath (has_edge c.deref.result.now) cycle)) c.in-None.is c.in_ok-cycle.ensures.none in
    no-cycle c.args.tables.now c.requires.0 c.requires.1 T same (subst (λ (g : List (List ℕ)). (cycle : List ℕ) → ¬ IsClosedPath (has_edge g) cycle) graph none) fault
