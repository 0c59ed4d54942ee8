use Rattle.std.proofs.Common.{◌∙◌, subst}
use Rattle.std.specs.Prelude.{Contains, ◌≤◌, List}
use Rattle.std.proofs.lemmas.List.Elements.{All-contains}
use Rattle.flat_grammar.specs.declared.flat.FlatComp.{FlatComp}
use Rattle.flat_grammar.specs.WellFormed.{IsRule}
use Rattle.induced_deps.specs.Vertices.{vertices}
use Rattle.induced_deps.proofs.GraphLemmas.{within_all, comp_placed, graph_made}
use Rattle.induced_deps.proofs.growth.graph_of.Goals as goal

pub add_comps-requires-clause-placed : goal.add_comps-requires-clause-placed
add_comps-requires-clause-placed c =
    let rule = All-contains (IsRule c.args.flat.now.symbols) c.args.flat.now.rules c.args.rule.now c.args.flat.now.well_formed.each_rule c.requires in
    λ d h. rw c.deref.ensures.value (comp_placed c.args.flat.now.symbols c.args.rule.now c.in_ok-places.places.items c.in_ok-places.ensures.places rule d (subst (λ (cs : List FlatComp). Contains cs d) c.as_slice.ensures h))

pub add_comps-requires-clause-within : goal.add_comps-requires-clause-within
add_comps-requires-clause-within c = rw (c.deref.ensures.value, c.in_ok-closure.ensures.size, c.in_ok-places.ensures.count) (within_all c.args.flat.now.symbols c.args.rule.now c.in_ok-places.places.items c.in_ok-places.ensures.places)

pub returns : goal.returns
returns c =
    let symbols = c.args.flat.now.symbols in
    let rule = c.args.rule.now in
    let few = All-contains (λ r. vertices symbols r ≤ 1024) c.args.flat.now.rules rule c.args.flat.now.well_formed.few_occurrences c.requires in
    let is_rule = All-contains (IsRule symbols) c.args.flat.now.rules rule c.args.flat.now.well_formed.each_rule c.requires in
    graph_made symbols c.args.flat.now.rules rule c.in_ok-places.places.items c.in_ok-closure.closure.rows.items c.add_comps.new.closure.rows.items c.requires is_rule few c.in_ok-places.ensures.places c.in_ok-closure.ensures.none
    (c.in_ok-add_comps.ensures.size ∙ c.in_ok-closure.ensures.size ∙ c.in_ok-places.ensures.count) c.in_ok-add_comps.ensures.transitive (rw (c.deref.ensures.value, c.as_slice.ensures) at c.in_ok-add_comps.ensures.edges)
