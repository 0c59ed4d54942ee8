use Rattle.std.proofs.Common.{◌≡◌, ◌∙◌, ℕ, List, sym, subst}
use Rattle.rule_tables.specs.declared.extra.Extra.{Extra}
use Rattle.rule_tables.specs.declared.extra.ExtraAttr.{ExtraAttr}
use Rattle.rule_tables.specs.declared.extra.ExtraComp.{ExtraComp}
use Rattle.rule_tables.specs.Shares.{ConstituentsShare}
use Rattle.rule_tables.specs.ExtraOf.{IsExtra, IsOfConstituents}
use Rattle.constituents_expand.specs.Extras.{all_attrs, all_comps}
use Rattle.constituents_expand.specs.Gatherings.{IsChildGraph, AreGatherings}
use Rattle.constituents_expand.proofs.ExpandLemmas.{extra-is}
use Rattle.constituents_expand.proofs.expand.constituents_extra.Goals as goal

pub child_graph-requires : goal.child_graph-requires
child_graph-requires c = (c.requires.forced.0, c.requires.forced.1.tables)

pub gatherings-requires-clause-graph : goal.gatherings-requires-clause-graph
gatherings-requires-clause-graph c =
    let g = c.in_ok-graph.ensures in
    subst (λ (l : List (List ℕ)). IsChildGraph c.args.forced.now.tables l) (sym c.deref.ensures.value) (record { count = g.count; is_graph = g.graph; edges = g.edges })

pub returns : goal.returns
returns c env T needs are numbers clear from sound few =
    let forced = c.args.forced.now in
    let t = forced.tables in
    let gs = c.in_ok-all.all.items in
    let all : AreGatherings forced c.args.symbols.now c.args.uses.now gs = c.in_ok-all.ensures in
    let make : List ExtraAttr → List ExtraComp → Extra = λ a x. record { attrs = a; comps = x } in
    let attrs : c.from_vec.result ≡ all_attrs gs t.symbols = c.from_vec.ensures ∙ c.in_ok-attrs.ensures ∙ (λ q. all_attrs (c.deref-2.ensures.value q) (c.as_slice.ensures q)) in
    let comps : c.from_vec-2.result ≡ all_comps gs t.spec.rules t.plain = c.from_vec-2.ensures ∙ c.in_ok-comps.ensures ∙ (λ q. all_comps (c.deref-3.ensures.value q) (c.as_slice-2.ensures q) (c.as_slice-3.ensures q)) in
    let same : make c.from_vec.result c.from_vec-2.result ≡ make (all_attrs gs t.symbols) (all_comps gs t.spec.rules t.plain) = λ q. make (attrs q) (comps q) in
    subst (IsExtra t T needs IsOfConstituents (ConstituentsShare t.spec T needs)) (sym same) (extra-is forced c.args.symbols.now c.requires.symbols c.args.uses.now c.requires.uses gs all env T needs are numbers clear from sound few)
