use Rattle.std.specs.Prelude.{unwrap_or, Contains, take}
use Rattle.flat_grammar.proofs.Lists.{contains-nil}
use Rattle.flat_grammar.specs.declared.flat.Occ.{Occ}
use Rattle.std.proofs.Common.{◌≡◌, inl, inr, ◌<◌, ◌≤◌, ◌∙◌, ◌⊎◌, ℕ, List, [], Option, refl, ap, sym, subst, length, true≢false, arith, rules}
use Rattle.std.proofs.lemmas.Grind.{common_steps}
use Rattle.flat_grammar.specs.declared.plan.PlanItem.TheVariants.{Leave}
use Rattle.flat_grammar.specs.declared.plan.VisitClass.{VisitClass}
use Rattle.flat_grammar.specs.Construction.{IsConstructed}
use Rattle.flat_grammar.specs.SoundPlan.{segment_after}
use Rattle.visit_sequences.specs.Steps.{AreWithin, item_occurrence, visits_there, IsLeastOpen, IsListed, IsRest, Sorts, HandsOn}
use Rattle.visit_sequences.proofs.Classes.{row-there}
use Rattle.visit_sequences.proofs.Occurrences.{rule-is}
use Rattle.visit_sequences.proofs.ChoiceLemmas.{ready-child, rest-stays}
use Rattle.visit_sequences.proofs.MeasureLemmas.{left_over, chosen-drops, still-within, EachChosen, each-more, whole-sequence}
use Rattle.visit_sequences.proofs.FewVisits.{goals-within}
use Rattle.visit_sequences.proofs.plan.sequence.Goals as goal

pub loop-rest-smaller : goal.loop-rest-smaller
loop-rest-smaller c =
    let flat = c.args.flat.now in
    let visits = c.args.parts.now.visits in
    let r = c.args.rule.now in
    let items = c.loop-rest.progress.items.items in
    subst (λ l. left_over visits r l < left_over visits r items) (sym c.in_ok-take.ensures.items) (chosen-drops visits r flat.symbols flat.rules items c.choose-item.result c.choose-item.ensures.chosen c.loop-rest.invariant.within)

pub loop-rest-preserved : goal.loop-rest-preserved
loop-rest-preserved c =
    let flat = c.args.flat.now in
    let visits = c.args.parts.now.visits in
    let r = c.args.rule.now in
    let items = c.loop-rest.progress.items.items in
    let row : c.visits_at-last.result.now ≡ visits_there visits r 0 = c.visits_at-last.ensures ∙ ap (λ (l : List (List VisitClass)). visits_there l r 0) c.as_slice.ensures in
    record {
      follows = c.in_ok-take.ensures.follows;
      chosen = subst (EachChosen visits r flat.symbols flat.rules) (sym c.in_ok-take.ensures.items) (each-more visits r flat.symbols flat.rules items c.choose-item.result c.loop-rest.invariant.chosen c.choose-item.ensures.chosen);
      within = subst (λ l. segment_after l ≤ length (visits_there visits r 0)) (sym c.in_ok-take.ensures.items) (still-within visits r flat.symbols flat.rules items c.choose-item.result c.choose-item.ensures.chosen c.loop-rest.invariant.within
          (λ e. true≢false (sym (c.is_end.ensures.1 (e ∙ ap (λ (l : List VisitClass). Leave (length l)) (sym row))) ∙ c.if-is_end.false)));
      sorts = subst (λ l. Sorts c.take.new.self l c.wake.new.self) c.deref-in-loop-rest-4.ensures.value c.in_ok-wake.ensures;
      rest = rest-stays visits r c.in_ok-goals.goals.items c.loop-rest.progress c.take.new.self c.choose-item.result (item_occurrence c.choose-item.result) c.choose-item.new.rest (record { goals = c.choose-item.new.rest.goals; children = c.choose-item.new.rest.children; ready = c.list.new.self })
          c.loop-rest.invariant.follows c.in_ok-take.ensures.follows c.in_ok-take.ensures.items c.in_ok-take.ensures.grows.evaluated c.in_ok-take.ensures.others refl refl
          (subst (λ k. (j : ℕ) → IsListed c.choose-item.new.rest.ready j ⊎ (j ≡ k) → IsListed c.list.new.self j) c.place.ensures c.in_ok-list.ensures)
          (subst (λ l. IsRest visits r c.loop-rest.progress l c.choose-item.new.rest) c.deref-in-loop-rest-3.ensures.value c.choose-item.ensures.rest);
    }

pub least_ready-ready-requires : goal.least_ready-ready-requires
least_ready-ready-requires c = subst (λ l. Sorts c.loop-rest.progress l c.loop-rest.queue) (sym c.deref-in-loop-rest-2.ensures.value) c.loop-rest.invariant.sorts

pub wake-requires : goal.wake-requires
wake-requires c =
    let grows = c.in_ok-take.ensures.grows in
    let visits = c.args.parts.now.visits in
    let given : (u : Occ) → HandsOn visits c.args.rule.now c.choose-item.result u → Contains c.deref-in-loop-rest-5.result.now u =
    λ u g. subst (λ l. Contains l u) (sym c.deref-in-loop-rest-5.ensures.value) (c.in_ok-given.ensures u (subst (λ l. HandsOn l c.args.rule.now c.choose-item.result u) (sym c.as_slice-in-loop-rest-2.ensures) g)) in (
      c.loop-rest.progress,
      subst (λ l. Sorts c.loop-rest.progress l c.least_ready-ready.new.queue) (c.deref-in-loop-rest-2.ensures.value ∙ sym c.deref-in-loop-rest-4.ensures.value) c.least_ready-ready.ensures.sorts,
      record {
        evaluated = grows.evaluated;
        stays = grows.stays;
        given = λ u bit. elim (grows.given u bit) [ inl b ↦ inl b | inr g ↦ inr (given u g) ];
      },
    )

pub returns-then-is_end : goal.returns-then-is_end
returns-then-is_end c =
    let flat = c.args.flat.now in
    let visits = c.args.parts.now.visits in
    let r = c.args.rule.now in
    let items = c.loop-rest.progress.items.items in
    let item = c.choose-item.result in
    let row : c.visits_at-last.result.now ≡ visits_there visits r 0 = c.visits_at-last.ensures ∙ ap (λ (l : List (List VisitClass)). visits_there l r 0) c.as_slice.ensures in
    let left = row-there flat.symbols flat.rules visits c.requires.visits r.left (rule-is flat.symbols flat.rules flat.shapes flat.root flat.well_formed r c.requires.rule).left_side in
    let each = each-more visits r flat.symbols flat.rules items item c.loop-rest.invariant.chosen c.choose-item.ensures.chosen in
    let end : item ≡ Leave (length (visits_there visits r 0)) = c.is_end.ensures.0 c.if-is_end.true ∙ ap (λ (l : List VisitClass). Leave (length l)) row in
    subst (IsConstructed flat.symbols flat.rules visits r) (sym (c.from_vec.ensures ∙ (ap (λ v. v.items) c.into_items.ensures ∙ c.in_ok-take.ensures.items)))
    (whole-sequence visits r flat.symbols flat.rules items item left.0 left.1 (ap (λ (o : Option (List VisitClass)). length (unwrap_or o [])) left.1) each end)

pub loop-rest-init : goal.loop-rest-init
loop-rest-init c =
    let flat = c.args.flat.now in
    let visits = c.args.parts.now.visits in
    let r = c.args.rule.now in
    let left = row-there flat.symbols flat.rules visits c.requires.visits r.left (rule-is flat.symbols flat.rules flat.shapes flat.root flat.well_formed r c.requires.rule).left_side in
    let e : segment_after c.in_ok-progress.progress.items.items ≡ 1 = ap segment_after c.in_ok-progress.ensures.none in
    let l : length (visits_there visits r 0) ≡ length left.0 = ap (λ (o : Option (List VisitClass)). length (unwrap_or o [])) left.1 in
    let h : 0 < length left.0 = left.2.one in
    record {
      follows = c.in_ok-progress.ensures.follows;
      chosen = first_of (search rules, grind (arith, common_steps));
      within = omega (arith, e, l, h);
      sorts = subst (λ l. Sorts c.in_ok-progress.progress l c.in_ok-queue.queue) c.deref.ensures.value c.in_ok-queue.ensures;
      rest = record {
        evaluated = λ g m. absurd (contains-nil g (subst (λ n. Contains (take n c.in_ok-goals.goals.items) g) c.in_ok-rest.ensures.none.0 m));
        over = λ k pos within. absurd (let e = c.in_ok-rest.ensures.none.1 in omega (arith, pos, within, e));
        ready = λ k pos ready. c.in_ok-rest.ensures.ready k pos (ready-child visits r c.in_ok-progress.progress k pos ready);
      };
    }

pub choose-item-requires-clause-ready : goal.choose-item-requires-clause-ready
choose-item-requires-clause-ready c = subst (λ l. IsLeastOpen c.loop-rest.progress l c.least_ready-ready.result) (c.deref-in-loop-rest-2.ensures.value ∙ sym c.deref-in-loop-rest-3.ensures.value) c.least_ready-ready.ensures.least

pub choose-item-requires-clause-within : goal.choose-item-requires-clause-within
choose-item-requires-clause-within c = subst (λ n. n ≤ length (visits_there c.args.parts.now.visits c.args.rule.now 0)) (sym c.loop-rest.invariant.follows.segment) c.loop-rest.invariant.within

pub start-requires-2 : goal.start-requires-2
start-requires-2 c =
    let flat = c.args.flat.now in
    subst (λ l. AreWithin l (length c.in_ok-progress.progress.evaluated.items)) (sym c.deref.ensures.value)
    (goals-within flat.symbols flat.rules flat.shapes flat.root flat.well_formed c.args.rule.now c.requires.rule c.in_ok-goals.goals.items c.in_ok-goals.ensures (length c.in_ok-progress.progress.evaluated.items) (sym c.in_ok-progress.ensures.follows.each_evaluated))
