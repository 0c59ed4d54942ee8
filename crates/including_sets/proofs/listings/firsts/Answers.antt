use Rattle.std.specs.List.{list_any}
use Rattle.std.proofs.Common.{◌≡◌, ◌∙◌, ◌++◌, ◌∷◌, [], true, false, List, sym, ap}
use Rattle.including_sets.specs.declared.listings.Listing.{Listing}
use Rattle.including_sets.specs.Firsts.{firsts}
use Rattle.including_sets.specs.Listings.{is_same_listing}
use Rattle.including_sets.proofs.FirstLemmas.{first-next}
use Rattle.including_sets.proofs.listings.firsts.Goals as goal
use Rattle.including_sets.proofs.listings.firsts.Goals.{then-not-is_known+in_ok-push, else-not-is_known}

pub loop-one-preserved : goal.loop-one-preserved
loop-one-preserved c =
    let ls = c.args.listings.now in
    let i = c.loop-one.one-index in
    let x = c.one-item.result in
    let known = c.loop-one.kept.items in
    let all = firsts is_same_listing [] ls in
    let test : c.is_known.result ≡ list_any (λ other. is_same_listing other x) known =
    c.is_known.ensures ∙ ap (λ (l : List Listing). list_any (λ other. is_same_listing other x) l) c.deref.ensures.value in
    elim c.if-not-is_known.branch [
      | then-not-is_known+in_ok-push w ↦ first-next is_same_listing ls i x c.loop-one-test.true known c.if-not-is_known.kept.items all false c.loop-one.invariant
          (ap (λ (y : Listing). list_any (λ other. is_same_listing other y) known) (sym c.one-item.is) ∙ sym test ∙ w.if-not-is_known.true)
          (ap (λ v. v.items) w.kept-is ∙ w.in_ok-push.ensures.items ∙ ap (λ (y : Listing). known ++ y ∷ []) c.one-item.is)
      | else-not-is_known w ↦ first-next is_same_listing ls i x c.loop-one-test.true known c.if-not-is_known.kept.items all true c.loop-one.invariant
          (ap (λ (y : Listing). list_any (λ other. is_same_listing other y) known) (sym c.one-item.is) ∙ sym test ∙ w.if-not-is_known.false)
          (ap (λ v. v.items) w.kept-is)
    ]
