use Rattle.std.specs.Prelude.{slice_get}
use Rattle.std.proofs.lemmas.Bool.{cases_order}
use Rattle.std.proofs.lemmas.Option.{slice_get_read, slice_get_within}
use Rattle.std.proofs.Common.{◌≡◌, ◌∙◌, ap, arith, inl, inr, length, refl, subst, sym}
use Rattle.flat_grammar.proofs.Lists.{held}
use Rattle.region_engine.specs.declared.region.Region.{Region}
use Rattle.region_engine.specs.Regions.{items_left, IsRegionOf}
use Rattle.trials_of_regions.proofs.turns.are_finished.Goals as goal

pub left-requires : goal.left-requires
left-requires c =
    let some = c.args.regions.now in let item = c.region-item.result in
    let at = c.requires.each c.loop-region.region-index item (slice_get_read some (length some) c.loop-region.region-index item refl c.loop-region-test.true
    c.region-item.is) in
    subst (λ q. IsRegionOf c.args.job.now q item) (sym at.behind.region) at

pub loop-region-preserved : goal.loop-region-preserved
loop-region-preserved c = λ r g low e.
    let some = c.args.regions.now in let item = c.region-item.result in
    let there = slice_get_read some (length some) c.loop-region.region-index item refl c.loop-region-test.true c.region-item.is in
    let none : items_left c.args.job.now item ≡ 0 = omega (arith, c.left.ensures, c.if-left-gt0.false) in
    elim (cases_order r c.loop-region.region-index) [
      | inl same ↦ subst (λ (x : Region). items_left c.args.job.now x ≡ 0) (held (sym there ∙ ap (slice_get some) (sym same) ∙ e)) none
      | inr other ↦ elim other [ inl less ↦ c.loop-region.invariant r g less e | inr more ↦ absurd (omega (arith, low, more)) ]
    ]

pub returns : goal.returns
returns c = λ yes. record {
  each = λ r g e. let w = slice_get_within c.args.regions.now r g e in c.loop-region.invariant r g (omega (arith, w, c.loop-region-test.false)) e;
}
