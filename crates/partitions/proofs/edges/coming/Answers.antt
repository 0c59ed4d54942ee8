use Rattle.std.proofs.Common.{◌≡◌, ◌∙◌, Some, refl, sym, ap, arith}
use Rattle.std.specs.Prelude.{true, false, slice_get}
use Rattle.std.proofs.lemmas.Option.{slice_get-get_or}
use Rattle.partitions.proofs.EdgesLemmas.{coming-push, coming-skip, coming-at, coming-of, coming-below}
use Rattle.partitions.proofs.edges.coming.Goals.{then-is_in_one+in_ok-push, else-is_in_one}
use Rattle.partitions.proofs.edges.coming.Goals as goal

pub loop-a-preserved : goal.loop-a-preserved
loop-a-preserved c =
    let ids = c.args.ids.now in
    let later = c.args.later.now in
    let row = c.index-ids-a.result in
    let more = c.index-later-a.result in
    let at : slice_get ids c.loop-a.a ≡ Some row = slice_get-get_or ids c.loop-a.a row c.loop-a-test.true ∙ ap Some (sym c.index-ids-a.is) in
    let at_later : slice_get later c.loop-a.a ≡ Some more = slice_get-get_or later c.loop-a.a more (omega (arith, c.loop-a-test.true, c.requires.each)) ∙ ap Some (sym c.index-later-a.is) in
    elim c.if-is_in_one.branch [
      | then-is_in_one+in_ok-push w ↦ coming-push ids later c.args.start c.args.b c.loop-a.a c.loop-a.row.items c.if-is_in_one.row.items _ c.loop-a.invariant refl (ap (λ v. v.items) w.row-is ∙ w.in_ok-push.ensures.items)
          (coming-at ids later c.args.start c.args.b c.loop-a.a row more at at_later (c.is_in_one.ensures.0 w.if-is_in_one.true))
      | else-is_in_one w ↦ coming-skip ids later c.args.start c.args.b c.loop-a.a c.loop-a.row.items c.if-is_in_one.row.items c.loop-a.invariant (ap (λ v. v.items) w.row-is)
          (λ h. let e : true ≡ false = sym (c.is_in_one.ensures.1 (coming-of ids later c.args.start c.args.b c.loop-a.a row more at at_later h)) ∙ w.if-is_in_one.false in absurd (cc))
    ]

pub returns : goal.returns
returns c = λ u. (
  (λ m. let h = (c.loop-a.invariant u).0 m in (h.0, h.2, h.3)),
  (λ (a, e, h). (c.loop-a.invariant u).1 (a, (let l = coming-below c.args.ids.now c.args.later.now c.args.start c.args.b c.requires.each a h in omega arith), e, h)),
)
