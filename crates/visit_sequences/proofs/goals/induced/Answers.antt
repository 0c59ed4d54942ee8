use Rattle.std.specs.Prelude.{slice_get, IsBitSet, Some, true, false}
use Rattle.std.proofs.Common.{◌≡◌, ◌∙◌, ◌+◌, ℕ, ap, sym, subst, arith}
use Rattle.std.proofs.lemmas.Option.{slice_get-get_or, slice_get_within}
use Rattle.flat_grammar.proofs.Lists.{held}
use Rattle.visit_sequences.proofs.BitsLemmas.{IsFound, found-one, found-not}
use Rattle.visit_sequences.proofs.goals.induced.Goals.{then-has, else-has}
use Rattle.visit_sequences.proofs.goals.induced.Goals as goal

pub loop-a-preserved : goal.loop-a-preserved
loop-a-preserved c =
    let rows = c.args.rows.now in
    let a = c.loop-a.a in
    let row = c.index-rows-a.result in
    let at : slice_get rows a ≡ Some row = slice_get-get_or rows a row c.loop-a-test.true ∙ ap Some (sym c.index-rows-a.is) in
    let P = λ (j : ℕ). (row : ℕ) × (slice_get rows j ≡ Some row) × IsBitSet row c.args.b.0 in
    elim c.if-has.branch [
      | then-has w ↦ subst (λ set. IsFound P (a + 1) set) (sym w.set-is) (found-one P a c.loop-a.set w.with_small-set.result c.loop-a.invariant w.with_small-set.ensures (row, at, c.has.ensures.0 w.if-has.true))
      | else-has w ↦ subst (λ set. IsFound P (a + 1) set) (sym w.set-is) (found-not P a c.loop-a.set c.loop-a.invariant
          (λ (other, got, bit). let e : true ≡ false = sym (c.has.ensures.1 (subst (λ r. IsBitSet r c.args.b.0) (held (sym got ∙ at)) bit)) ∙ w.if-has.false in absurd (cc)))
    ]

pub returns : goal.returns
returns c = λ a. (
  (λ bit. let h = (c.loop-a.invariant a.0).0 bit in (h.0, h.2.0, h.2.1, h.2.2)),
  (λ h. (c.loop-a.invariant a.0).1 (h.0, (let l = slice_get_within c.args.rows.now a.0 h.1 h.2 in omega arith), (h.1, h.2, h.3))),
)
