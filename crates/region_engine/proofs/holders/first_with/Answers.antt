use Rattle.std.specs.Prelude.{slice_get}
use Rattle.std.proofs.lemmas.Bool.{cases_order}
use Rattle.std.proofs.lemmas.Option.{slice_get_read, slice_get_within}
use Rattle.std.proofs.Common.{◌∙◌, ap, arith, inl, inr, length, refl, subst, sym}
use Rattle.flat_grammar.proofs.Lists.{held}
use Rattle.region_engine.specs.declared.region.Region.{Region}
use Rattle.region_engine.specs.Kept.{IsMarked}
use Rattle.region_engine.proofs.holders.first_with.Goals as goal

pub returns-then-has : goal.returns-then-has
returns-then-has c =
    let some = c.args.regions.now in let item = c.index-regions-place.result in
    (item, slice_get_read some (length some) c.loop-place.place item refl c.loop-place-test.true c.index-regions-place.is, c.has.ensures.yes c.if-has.true)

pub loop-place-preserved : goal.loop-place-preserved
loop-place-preserved c = λ r g low e m.
    let some = c.args.regions.now in let item = c.index-regions-place.result in
    let there = slice_get_read some (length some) c.loop-place.place item refl c.loop-place-test.true c.index-regions-place.is in
    elim (cases_order r c.loop-place.place) [
      | inl same ↦ c.has.ensures.no c.if-has.false (subst (λ (x : Region). IsMarked x.values.marks.items c.args.key)
          (held (sym e ∙ ap (slice_get some) same ∙ there)) m)
      | inr other ↦ elim other [ inl less ↦ c.loop-place.invariant r g less e m | inr more ↦ absurd (omega (arith, low, more)) ]
    ]

pub unreachable-requires : goal.unreachable-requires
unreachable-requires c =
    let q = c.requires in
    let w = slice_get_within c.args.regions.now q.0 q.1 q.2 in
    c.loop-place.invariant q.0 q.1 (omega (arith, w, c.loop-place-test.false)) q.2 q.3
