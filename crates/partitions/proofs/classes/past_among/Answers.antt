use Rattle.std.proofs.Common.{◌≡◌, ◌∙◌, inl, inr, Some, sym, subst, ap, arith}
use Rattle.std.specs.Prelude.{slice_get}
use Rattle.std.proofs.lemmas.Bool.{cases_lt}
use Rattle.std.proofs.lemmas.Option.{slice_get-get_or}
use Rattle.flat_grammar.proofs.Lists.{held}
use Rattle.partitions.specs.declared.peeling.Levels.{Levels}
use Rattle.partitions.specs.Peeling.{IsPast}
use Rattle.partitions.proofs.PeelingLemmas.{below-length}
use Rattle.partitions.proofs.classes.past_among.Goals as goal

pub loop-levels-preserved : goal.loop-levels-preserved
loop-levels-preserved c = λ b.
    let i = c.loop-levels.levels-index in
    let all = c.args.all.now in
    let levels : Levels = c.levels-item.result in
    let at : slice_get all i ≡ Some levels = slice_get-get_or all i levels c.loop-levels-test.true ∙ ap Some (sym c.levels-item.is) in (
      (λ bit. elim ((c.union-row.ensures.members b).0 bit) [
        | inl old ↦ (let h = (c.loop-levels.invariant b).0 old in let l = h.2 in (h.0, h.1, (omega arith), h.3, h.4))
        | inr new ↦ (i, levels, (omega arith), at, (c.past.ensures b).0 new)
      ]),
      (λ (j, other, l, got, past). (c.union-row.ensures.members b).1 (elim (cases_lt j i) [
        | inl before ↦ inl ((c.loop-levels.invariant b).1 (j, other, before, got, past))
        | inr g ↦ inr ((c.past.ensures b).1 (let e : j ≡ i = omega arith in subst (λ (v : Levels). IsPast v c.args.k b) (held (sym got ∙ ap (λ n. slice_get all n) e ∙ at)) past))
      ])),
    )

pub returns : goal.returns
returns c = λ b. (
  (λ bit. let h = (c.loop-levels.invariant b).0 bit in (h.0, h.1, h.3, h.4)),
  (λ (j, levels, got, past). (c.loop-levels.invariant b).1 (j, levels, (let l = below-length c.args.all.now j levels got in omega arith), got, past)),
)
