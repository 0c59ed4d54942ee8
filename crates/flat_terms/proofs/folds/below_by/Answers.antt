use Rattle.std.specs.Prelude.{Contains}
use Rattle.std.proofs.Common.{ℕ, List, ◌≡◌, ◌<◌, ◌≤◌, length, get_or, ap, sym, subst, ◌∙◌, arith}
use Rattle.std.proofs.lemmas.Option.{slice_get-get_or}
use Rattle.std.proofs.lemmas.Result.{IfOk-weaker}
use Rattle.lido_base.proofs.Lists.{place-contains}
use Rattle.flat_terms.specs.declared.site.Role.TheVariants as role
use Rattle.flat_terms.specs.Folds.{comb_at, joined_at}
use Rattle.flat_terms.proofs.FoldLemmas.{listing-joined, link-one, link-two}
use Rattle.flat_terms.proofs.folds.below_by.Goals as goal

pub returns-in-Link-len2-up : goal.returns-in-Link-len2-up
returns-in-Link-len2-up c =
    let xs = c.as_slice.result.now in
    let there = λ (k : ℕ) (h : k < length xs). subst (λ (l : List ℕ). Contains l (get_or xs k 0)) c.as_slice.ensures.value (place-contains xs k (get_or xs k 0) (slice_get-get_or xs k 0 h)) in
    let two : 2 ≤ length xs = c.in-Link-len2-up.len_at_least in
    IfOk-weaker c.comb.result _ _ (λ made h scene is known fits few.
    h scene is known fits
    ∙ (λ i. comb_at scene c.args.number c.args.with (c.con-one.ensures scene is (few _ (there 0 (omega (arith, two)))) i) (c.con-other.ensures scene is (few _ (there 1 (omega (arith, two)))) i))
    ∙ link-two scene c.args.number c.args.with xs two ∙ ap (joined_at scene c.args.number role.Link c.args.with) c.as_slice.ensures.value
    ∙ ap (λ r. joined_at scene c.args.number r c.args.with c.args.places.items) (sym c.in-Link-len2-up.is-0)) c.comb.ensures

pub returns-in-Listing-len1-up : goal.returns-in-Listing-len1-up
returns-in-Listing-len1-up c =
    let xs = c.as_slice.result.now in
    let there = λ (k : ℕ) (h : k < length xs). subst (λ (l : List ℕ). Contains l (get_or xs k 0)) c.as_slice.ensures.value (place-contains xs k (get_or xs k 0) (slice_get-get_or xs k 0 h)) in
    let one : 1 ≤ length xs = c.in-Listing-len1-up.len_at_least in
    λ scene is known fits few.
    c.con.ensures scene is (few _ (there 0 (omega (arith, one))))
    ∙ listing-joined scene c.args.number c.args.with xs one ∙ ap (joined_at scene c.args.number role.Listing c.args.with) c.as_slice.ensures.value
    ∙ ap (λ r. joined_at scene c.args.number r c.args.with c.args.places.items) (sym c.in-Listing-len1-up.is-0)

pub returns-in-Link-len1 : goal.returns-in-Link-len1
returns-in-Link-len1 c =
    let xs = c.as_slice.result.now in
    let there = λ (k : ℕ) (h : k < length xs). subst (λ (l : List ℕ). Contains l (get_or xs k 0)) c.as_slice.ensures.value (place-contains xs k (get_or xs k 0) (slice_get-get_or xs k 0 h)) in
    let one : length xs ≡ 1 = omega (arith, c.in-Link-len1.len_at_least, c.in-Link-len1.len_below) in
    λ scene is known fits few.
    c.con-in-Link-len1.ensures scene is (few _ (there 0 (omega (arith, one))))
    ∙ link-one scene c.args.number c.args.with xs one ∙ ap (joined_at scene c.args.number role.Link c.args.with) c.as_slice.ensures.value
    ∙ ap (λ r. joined_at scene c.args.number r c.args.with c.args.places.items) (sym c.in-Link-len1.is-0)
