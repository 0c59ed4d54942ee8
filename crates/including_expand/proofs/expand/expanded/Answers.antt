use Rattle.std.specs.Prelude.{Contains, IsTrue, ◌↔◌, slice_get, IfSome, IfNone}
use Rattle.std.proofs.Common.{◌≡◌, ℕ, List, length, Option, Some, ap, sym, subst, arith}
use Rattle.lido_syntax.specs.declared.fault.SpecFault.{SpecFault}
use Rattle.least_paths.specs.Graph.{IsGraph, has_edge}
use Rattle.rule_tables.specs.declared.table.Tables.{Tables}
use Rattle.rule_tables.specs.PlainRules.{is_child, plain_rules}
use Rattle.rule_tables.specs.TablesOf.{named_symbols}
use Rattle.need_graphs.proofs.RangeLemmas.{root-below}
use Rattle.remote_lists.specs.Reach.{IsChildGraph}
use Rattle.including_sets.specs.declared.sets.PairSet.{PairSet}
use Rattle.including_sets.specs.Made.{IsCounted}
use Rattle.including_sets.specs.Sets.{AreSetsOf}
use Rattle.including_expand.specs.Needed.{HasNoPath, IsFirstFault}
use Rattle.including_expand.proofs.ExpandLemmas.{over-graph, fault-in, without-fault}
use Rattle.including_expand.proofs.expand.expanded.Goals as goal

-- what is said of the graph is so of the same list
same-graph : (t : Tables) (made graph : List (List ℕ)) → graph ≡ made → length made ≡ length t.symbols → IsGraph made
    → ((x y : ℕ) → IsTrue (has_edge made x y) ↔ IsTrue (is_child (plain_rules t.spec (named_symbols t)) x y)) → IsChildGraph t graph
same-graph t made graph same count is edges = subst (IsChildGraph t) (sym same) (record { count = count; is_graph = is; edges = edges })

pub of-requires : goal.of-requires
of-requires c = (c.requires.forced.0, c.requires.forced.1.tables)

pub child_graph-requires : goal.child_graph-requires
child_graph-requires c = (c.requires.forced.0, c.requires.forced.1.tables)

pub first_fault-requires-clause-graph : goal.first_fault-requires-clause-graph
first_fault-requires-clause-graph c = subst IsGraph (sym c.deref.ensures.value) c.in_ok-graph.ensures.graph

pub first_fault-requires-clause-root : goal.first_fault-requires-clause-root
first_fault-requires-clause-root c =
    let below = root-below c.args.forced.now.tables c.requires.forced.0 c.requires.forced.1.tables in
    let count = c.in_ok-graph.ensures.count in
    let same = ap length c.deref.ensures.value in
    omega (arith, below, count, same)

pub returns-in-Some : goal.returns-in-Some
returns-in-Some c =
    let forced = c.args.forced.now in
    let symbols = c.in_ok-symbols.symbols in
    let graph = c.deref.result.now in
    let sets = c.deref-2.result.now in
    let its : IsChildGraph forced.tables graph = same-graph forced.tables c.in_ok-graph.graph.items graph c.deref.ensures.value c.in_ok-graph.ensures.count c.in_ok-graph.ensures.graph c.in_ok-graph.ensures.edges in
    let are : AreSetsOf forced symbols sets = subst (AreSetsOf forced symbols) (sym c.deref-2.ensures.value) c.in_ok-sets.ensures.exactly in
    let counted : (set : PairSet) → Contains sets set → IsCounted forced.tables set =
    subst (λ (l : List PairSet). (set : PairSet) → Contains l set → IsCounted forced.tables set) (sym c.deref-2.ensures.value) c.in_ok-sets.ensures.count in
    let first : IsFirstFault forced.tables graph sets c.in-Some.fault = subst (λ (o : Option SpecFault). IfSome o (IsFirstFault forced.tables graph sets)) c.in-Some.is c.in_ok-fault.ensures.some in
    fault-in forced symbols c.in_ok-symbols.ensures graph its sets are (over-graph forced.tables graph its sets counted) c.in-Some.fault first

pub including_extra-requires-clause-graph : goal.including_extra-requires-clause-graph
including_extra-requires-clause-graph c = same-graph c.args.forced.now.tables c.in_ok-graph.graph.items c.deref-in-None.result.now c.deref-in-None.ensures.value c.in_ok-graph.ensures.count c.in_ok-graph.ensures.graph c.in_ok-graph.ensures.edges

pub including_extra-requires-clause-sets : goal.including_extra-requires-clause-sets
including_extra-requires-clause-sets c =
    let symbols = c.in_ok-symbols.symbols in
    (symbols, c.in_ok-symbols.ensures, subst (AreSetsOf c.args.forced.now symbols) (sym c.deref-in-None-2.ensures.value) c.in_ok-sets.ensures.exactly)

pub returns : goal.returns
returns c =
    let forced = c.args.forced.now in
    let symbols = c.in_ok-symbols.symbols in
    let graph = c.deref.result.now in
    let sets = c.deref-2.result.now in
    let its : IsChildGraph forced.tables graph = same-graph forced.tables c.in_ok-graph.graph.items graph c.deref.ensures.value c.in_ok-graph.ensures.count c.in_ok-graph.ensures.graph c.in_ok-graph.ensures.edges in
    let are : AreSetsOf forced symbols sets = subst (AreSetsOf forced symbols) (sym c.deref-2.ensures.value) c.in_ok-sets.ensures.exactly in
    let none : (i : ℕ) (set : PairSet) → slice_get sets i ≡ Some set → HasNoPath graph forced.tables.root.0 set =
    subst (λ (o : Option SpecFault). IfNone o ((i : ℕ) (set : PairSet) → slice_get sets i ≡ Some set → HasNoPath graph forced.tables.root.0 set)) c.in-None.is c.in_ok-fault.ensures.none in
    (c.in_ok-including_extra-in-None.ensures, without-fault forced symbols c.in_ok-symbols.ensures graph its sets are none)
