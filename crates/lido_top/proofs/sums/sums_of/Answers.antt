use Rattle.std.proofs.Common.{◌≡◌, ℕ, ℤ, ◌+◌, ◌-◌, ◌<◌, List, length, subst, sym, ◌∙◌, arith, ap, set, w64}
use Rattle.std.proofs.lemmas.Int.{to_z-of_z}
use Rattle.lido_top.specs.Sums.{sum_at, StaysAt}
use Rattle.lido_top.proofs.SumsLemmas.{HasSums, StayFrom, one_more, stay_more, would_stay, all_summed}
use Rattle.lido_top.proofs.sums.sums_of.Goals as goal

pub returns-in_default-clause-outside : goal.returns-in_default-clause-outside
returns-in_default-clause-outside c = λ is values attribution all.
    let before : c.loop-i.i ≡ c.loop-i.i - 1 + 1 = omega arith in
    let sums = subst (λ (n : ℕ). HasSums c.args.rules.now c.args.nodes.now c.loop-i.values.items n) before c.loop-i.invariant.sums in
    c.in_default.ensures.none
    (subst (λ (l : List ℤ). StaysAt c.args.rules.now c.args.nodes.now l (c.loop-i.i - 1)) (sym c.deref.ensures.value)
    (would_stay c.args.rules.now c.args.nodes.now c.loop-i.values.items values (c.loop-i.i - 1) c.requires.preorder (omega arith) sums attribution all))

pub loop-i-preserved : goal.loop-i-preserved
loop-i-preserved c =
    let before : c.loop-i.i ≡ c.loop-i.i - 1 + 1 = omega arith in
    let sums = subst (λ (n : ℕ). HasSums c.args.rules.now c.args.nodes.now c.loop-i.values.items n) before c.loop-i.invariant.sums in
    let stay = subst (λ (n : ℕ). StayFrom c.args.rules.now c.args.nodes.now c.loop-i.values.items n) before c.loop-i.invariant.stay in
    let is = subst (λ (l : List ℤ). c.in-Some.sum ≡ sum_at c.args.rules.now c.args.nodes.now l (c.loop-i.i - 1)) c.deref.ensures.value c.in-Some.ensures.some in
    let here = subst (λ (l : List ℤ). StaysAt c.args.rules.now c.args.nodes.now l (c.loop-i.i - 1)) c.deref.ensures.value c.in-Some.ensures.stays in
    let less : c.loop-i.i - 1 < length c.args.nodes.now = omega arith in
    let now = sym (c.put.ensures ∙ ap (λ (z : ℤ). set c.loop-i.values.items (c.loop-i.i - 1) z) (to_z-of_z w64 c.in-Some.sum c.in-Some.ensures.fits)) in
    record {
      within = omega arith;
      sums = subst (λ (l : List ℤ). HasSums c.args.rules.now c.args.nodes.now l (c.loop-i.i - 1)) now
          (one_more c.args.rules.now c.args.nodes.now c.loop-i.values.items (c.loop-i.i - 1) c.in-Some.sum c.requires.preorder less sums is);
      stay = subst (λ (l : List ℤ). StayFrom c.args.rules.now c.args.nodes.now l (c.loop-i.i - 1)) now
          (stay_more c.args.rules.now c.args.nodes.now c.loop-i.values.items (c.loop-i.i - 1) c.in-Some.sum c.requires.preorder less stay here);
    }

pub returns-clause-only : goal.returns-clause-only
returns-clause-only c =
    let none_left : c.loop-i.i ≡ 0 = omega arith in
    all_summed c.args.rules.now c.args.nodes.now c.loop-i.values.items
    (subst (λ (n : ℕ). HasSums c.args.rules.now c.args.nodes.now c.loop-i.values.items n) none_left c.loop-i.invariant.sums)
