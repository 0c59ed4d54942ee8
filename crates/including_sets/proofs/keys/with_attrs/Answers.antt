use Rattle.std.specs.List.{AllZip}
use Rattle.std.proofs.Common.{◌≡◌, ◌∙◌, List, Some, get_or, ap, refl, sym, subst, take_all}
use Rattle.std.proofs.lemmas.List.{get_or-map}
use Rattle.std.proofs.lemmas.Option.{slice_get-get_or}
use Rattle.symbol_attributes.proofs.OrderLemmas.{lists-more}
use Rattle.including_sets.specs.declared.uses.Use.{Use}
use Rattle.including_sets.specs.declared.listings.ListedAttr.{ListedAttr}
use Rattle.including_sets.specs.Keys.{IsListing}
use Rattle.including_sets.proofs.keys.with_attrs.Goals as goal

pub loop-k-preserved : goal.loop-k-preserved
loop-k-preserved c f e =
    let uses = c.args.uses.now in
    let k = c.loop-k.k in
    let u = c.index-uses-k.result in
    let own : c.index-attrs-k.result ≡ f u =
    c.index-attrs-k.is ∙ ap (λ (l : List (List ListedAttr)). get_or l k c.index-attrs-k.result) e ∙ get_or-map f uses k u c.index-attrs-k.result c.loop-k-test.true ∙ ap f (sym c.index-uses-k.is) in
    lists-more (IsListing f) uses k u c.loop-k.all.items _ _ (slice_get-get_or uses k u c.loop-k-test.true ∙ ap Some (sym c.index-uses-k.is)) c.in_ok-push.ensures.items (c.loop-k.invariant f e)
    (record { one = refl; attrs = own })

pub returns : goal.returns
returns c f e = subst (λ (l : List Use). AllZip (IsListing f) l c.loop-k.all.items) (take_all c.loop-k.k c.args.uses.now c.loop-k-test.false) (c.loop-k.invariant f e)
