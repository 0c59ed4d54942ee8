use Rattle.std.proofs.Common.{◌≡◌, ◌∙◌, ◌≤◌, List, length, arith, sym, subst}
use Rattle.rule_tables.specs.declared.extra.Extra.{Extra}
use Rattle.rule_tables.specs.declared.extra.ExtraAttr.{ExtraAttr}
use Rattle.rule_tables.specs.declared.extra.ExtraComp.{ExtraComp}
use Rattle.rule_tables.specs.Shares.{ChainShare}
use Rattle.rule_tables.specs.ExtraOf.{IsExtra, IsOfChains}
use Rattle.chain_expand.specs.declared.walk.Walk.{Walk}
use Rattle.chain_expand.specs.Attrs.{all_attrs}
use Rattle.chain_expand.specs.Comps.{walks_at, all_comps}
use Rattle.chain_expand.specs.Walks.{AreAllWalks}
use Rattle.chain_expand.proofs.ExpandLemmas.{needs-count, walks-few, expanded}
use Rattle.chain_expand.proofs.expand.chain_extra.Goals as goal

pub all_walks-requires-clause-chains : goal.all_walks-requires-clause-chains
all_walks-requires-clause-chains c =
    let forced = c.args.forced.now in
    let sets = c.args.needs.now in
    let count = needs-count forced forced.tables.spec.chains sets c.requires.needs in
    let few : length sets ≤ 4294967296 = omega (arith, count, c.requires.within.chains) in
    few

pub all_comps-requires-clause-chains : goal.all_comps-requires-clause-chains
all_comps-requires-clause-chains c k =
    let forced = c.args.forced.now in
    let sets = c.args.needs.now in
    let walks = c.in_ok-walks.walks.items in
    let count = needs-count forced forced.tables.spec.chains sets c.requires.needs in
    let few : length sets ≤ 4294967296 = omega (arith, count, c.requires.within.chains) in
    let walked : AreAllWalks forced.tables.symbols sets forced.tables.plain forced.comps walks = c.in_ok-walks.ensures in
    subst (λ (ws : List (List Walk)). length (walks_at ws k) ≤ 4294967296) (sym c.deref.ensures.value)
    (walks-few forced.tables.symbols sets forced.tables.plain forced.comps walks 4294967296 walked few k)

pub returns : goal.returns
returns c env T needs are numbers clear =
    let forced = c.args.forced.now in
    let t = forced.tables in
    let sets = c.args.needs.now in
    let walks = c.in_ok-walks.walks.items in
    let walked : AreAllWalks t.symbols sets t.plain forced.comps walks = c.in_ok-walks.ensures in
    let make : List ExtraAttr → List ExtraComp → Extra = λ a x. record { attrs = a; comps = x } in
    let attrs : c.from_vec.result ≡ all_attrs sets t.spec.chains t.symbols =
    c.from_vec.ensures ∙ c.in_ok-attrs.ensures ∙ (λ q. all_attrs sets (c.as_slice-2.ensures q) (c.as_slice.ensures q)) in
    let comps : c.from_vec-2.result ≡ all_comps walks t.plain = c.from_vec-2.ensures ∙ c.in_ok-comps.ensures ∙ (λ q. all_comps (c.deref.ensures.value q) (c.as_slice-3.ensures q)) in
    let same : make c.from_vec.result c.from_vec-2.result ≡ make (all_attrs sets t.spec.chains t.symbols) (all_comps walks t.plain) = λ q. make (attrs q) (comps q) in
    subst (IsExtra t T needs IsOfChains (ChainShare t.spec T needs)) (sym same) (expanded env forced T needs are numbers clear sets c.requires.needs walks walked)
