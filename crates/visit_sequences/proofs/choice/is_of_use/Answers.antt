use Rattle.std.specs.Prelude.{slice_get}
use Rattle.std.proofs.Common.{◌≡◌, ◌≤◌, ◌∙◌, inl, inr, Some, [], ap, sym, subst, arith, length, true≢false}
use Rattle.std.proofs.lemmas.Bool.{cases_lt}
use Rattle.std.proofs.lemmas.Option.{slice_get-get_or, slice_get_within}
use Rattle.flat_grammar.specs.declared.plan.VisitClass.{VisitClass}
use Rattle.flat_grammar.proofs.Lists.{held}
use Rattle.visit_sequences.proofs.ChoiceLemmas.{empty-list}
use Rattle.visit_sequences.proofs.choice.is_of_use.Goals as goal

pub loop-v-preserved : goal.loop-v-preserved
loop-v-preserved c = λ w x low below at.
    let row = c.args.row.now in
    let v = c.loop-v.v in
    let item = c.index-row-v.result in
    elim (cases_lt w v) [
      | inl l ↦ c.loop-v.invariant w x low l at
      | inr g ↦ (let e : w ≡ v = omega (arith, g, below) in
          let here : slice_get row v ≡ Some item = slice_get-get_or row v item (omega arith) ∙ ap Some (sym c.index-row-v.is) in
          let same : item ≡ x = held (sym here ∙ (ap (λ k. slice_get row k) (sym e) ∙ at)) in
          let none : length item.synthesized ≤ 0 = let l : c.len.result ≡ length item.synthesized = c.len.ensures ∙ ap (λ (y : VisitClass). length y.synthesized) (sym c.index-row-v.is) in let m : c.len.result ≤ 0 = c.if-len-gt0.false in omega (arith, l, m) in
          subst (λ (y : VisitClass). y.synthesized ≡ []) same (empty-list item.synthesized none))
    ]

pub returns : goal.returns
returns c = (
  (λ e. absurd (true≢false (sym e))),
  (λ (w, x, low, at, n). absurd (n (c.loop-v.invariant w x low (let l = slice_get_within c.args.row.now w x at in omega arith) at))),
)
