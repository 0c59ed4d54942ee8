use Rattle.std.proofs.Common.{◌≡◌, ◌∙◌, List, sym, subst}
use Rattle.rule_tables.specs.declared.extra.Extra.{Extra}
use Rattle.rule_tables.specs.declared.extra.ExtraAttr.{ExtraAttr}
use Rattle.rule_tables.specs.declared.extra.ExtraComp.{ExtraComp}
use Rattle.rule_tables.specs.Shares.{IncludingShare}
use Rattle.rule_tables.specs.ExtraOf.{IsExtra, IsOfIncluding}
use Rattle.including_expand.specs.Extras.{all_attrs, all_comps}
use Rattle.including_expand.proofs.ExpandLemmas.{extra-is}
use Rattle.including_expand.proofs.expand.including_extra.Goals as goal

pub all_needs-requires-clause-graph : goal.all_needs-requires-clause-graph
all_needs-requires-clause-graph c = c.requires.graph.is_graph

pub returns : goal.returns
returns c env T needs are numbers clear from sound few listed_types =
    let forced = c.args.forced.now in
    let t = forced.tables in
    let sets = c.args.sets.now in
    let rows = c.in_ok-needs.needs.items in
    let make : List ExtraAttr → List ExtraComp → Extra = λ a x. record { attrs = a; comps = x } in
    let attrs : c.from_vec.result ≡ all_attrs rows sets t.symbols = c.from_vec.ensures ∙ c.in_ok-attrs.ensures ∙ (λ q. all_attrs (c.deref.ensures.value q) sets (c.as_slice.ensures q)) in
    let comps : c.from_vec-2.result ≡ all_comps rows sets t.plain = c.from_vec-2.ensures ∙ c.in_ok-comps.ensures ∙ (λ q. all_comps (c.deref-2.ensures.value q) sets (c.as_slice-2.ensures q)) in
    let same : make c.from_vec.result c.from_vec-2.result ≡ make (all_attrs rows sets t.symbols) (all_comps rows sets t.plain) = λ q. make (attrs q) (comps q) in
    subst (IsExtra t T needs IsOfIncluding (IncludingShare t.spec T needs)) (sym same)
    (extra-is forced c.args.graph.now c.requires.graph sets c.requires.sets c.requires.each rows c.in_ok-needs.ensures env T needs are numbers clear from sound few listed_types)
