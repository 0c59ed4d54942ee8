-- What one more item gives.
use Rattle.std.specs.Prelude.{slice_get, slice_index, slice_set, count_by, option_and_then, unwrap_or, nat_eq, ◌↔◌}
use Rattle.std.proofs.Common.{◌≡◌, ℕ, zero, suc, ◌<◌, ◌≤◌, ◌+◌, ◌⊎◌, inl, inr, List, [], ◌∷◌, ◌++◌, length, Option, Some, None, true≢false, cond, refl, arith, ap, sym, subst, ◌∙◌}
use Rattle.std.proofs.lemmas.Bool.{cases_lt, cases_eq, eq-eqb, ne_eqb}
use Rattle.std.proofs.lemmas.Option.{none-some}
use Rattle.std.proofs.lemmas.List.{get_or-set_same, get_or-set_other, length-set}
use Rattle.std.proofs.lemmas.List.Elements.{Contains-append_left, Contains-push, Contains-push_cases}
use Rattle.std.proofs.lemmas.List.Sums.{sum_by-cons}
use Rattle.lido_base.specs.declared.ids.SymId.{SymId}
use Rattle.lido_base.specs.declared.ids.AttrId.{AttrId}
use Rattle.flat_grammar.specs.declared.flat.Occ.{Occ}
use Rattle.flat_grammar.specs.declared.flat.FlatRule.{FlatRule}
use Rattle.flat_grammar.specs.declared.plan.VisitClass.{VisitClass}
use Rattle.flat_grammar.specs.declared.plan.PlanItem.{PlanItem}
use Rattle.flat_grammar.specs.declared.plan.PlanItem.TheVariants.{Eval, Visit, Leave}
use Rattle.flat_grammar.specs.Rules.{symbol_at, symbols_of}
use Rattle.flat_grammar.specs.SoundPlan.{is_leave, is_visit_of, segment_after, visits_made, IsEvaluated, IsClassAt, IsAtHand}
use Rattle.visit_sequences.specs.declared.progress.Progress.{Progress}
use Rattle.visit_sequences.specs.Steps.{visits_there, PassesIn, HasBit, Evaluates, Passes, Follows}
use Rattle.visit_sequences.proofs.ProgressLemmas.{evaluated-by, is_evaluation}
use Rattle.visit_sequences.proofs.Soundness.{leaves-append, visits-append}

module _ (visits : List (List VisitClass)) (r : FlatRule) where
  pub class-row : (k v : ℕ) (c : VisitClass) → IsClassAt visits r k (suc v) c → slice_get (visits_there visits r k) v ≡ Some c
  class-row k v c (s, row, at, e, f) = ap (λ (o : Option SymId). slice_get (unwrap_or (option_and_then (λ (s : SymId). slice_get visits s.0) o) []) v) at
      ∙ (ap (λ (o : Option (List VisitClass)). slice_get (unwrap_or o []) v) e ∙ f)

  pub row-class : (k v : ℕ) (c : VisitClass) → slice_get (visits_there visits r k) v ≡ Some c → IsClassAt visits r k (suc v) c
  row-class k v c h = go (symbol_at r k) refl h
    where
      go : (o : Option SymId) → symbol_at r k ≡ o → slice_get (unwrap_or (option_and_then (λ (s : SymId). slice_get visits s.0) o) []) v ≡ Some c → IsClassAt visits r k (suc v) c
      go None e f = absurd (none-some c f)
      go (Some s) e f = pick (slice_get visits s.0) refl f
        where
          pick : (l : Option (List VisitClass)) → slice_get visits s.0 ≡ l → slice_get (unwrap_or l []) v ≡ Some c → IsClassAt visits r k (suc v) c
          pick None g h = absurd (none-some c h)
          pick (Some row) g h = (s, row, e, g, h)

  visit-counts : (before : List PlanItem) (j v k : ℕ) → visits_made (before ++ Visit j v ∷ []) k ≡ visits_made before k + cond (nat_eq j k) 1 0
  visit-counts before j v k =
      let a = visits-append k before (Visit j v ∷ []) in
      let b : visits_made (Visit j v ∷ []) k ≡ cond (nat_eq j k) 1 0 + 0 = sum_by-cons (λ x. cond (is_visit_of k x) 1 0) (Visit j v) [] in omega (arith, a, b)

  pub visit-counts_same : (before : List PlanItem) (k v : ℕ) → visits_made (before ++ Visit k v ∷ []) k ≡ suc (visits_made before k)
  visit-counts_same before k v = let a = visit-counts before k v k in let b : cond (nat_eq k k) 1 0 ≡ 1 = ap (λ t. cond {A = ℕ} t 1 0) (eq-eqb k k refl) in omega (arith, a, b)

  pub visit-counts_other : (before : List PlanItem) (j v k : ℕ) → (j ≡ k → ⊥) → visits_made (before ++ Visit j v ∷ []) k ≡ visits_made before k
  visit-counts_other before j v k n = let a = visit-counts before j v k in let b : cond (nat_eq j k) 1 0 ≡ 0 = ap (λ t. cond {A = ℕ} t 1 0) (ne_eqb j k n) in omega (arith, a, b)

  -- what is at hand stays so
  at_hand-more : (before after : List PlanItem) → ((p : Occ) → IsEvaluated before p → IsEvaluated after p) → ((k : ℕ) → visits_made before k ≤ visits_made after k) → segment_after before ≤ segment_after after
      → (p : Occ) → IsAtHand visits r before p → IsAtHand visits r after p
  at_hand-more before after done made seg p (inl e) = inl (done p e)
  at_hand-more before after done made seg p (inr (inl (z, v, c, l, at, m))) = let h = made p.occ in inr (inl (z, v, c, (omega (arith, l, h)), at, m))
  at_hand-more before after done made seg p (inr (inr (z, v, c, l, at, m))) = inr (inr (z, v, c, (omega (arith, l, seg)), at, m))

  module _ (before : List PlanItem) (x : PlanItem) where
    evaluated-kept : (p : Occ) → IsEvaluated before p → IsEvaluated (before ++ x ∷ []) p
    evaluated-kept p e = Contains-append_left before (x ∷ []) (Eval p) e

    pub made-kept : (k : ℕ) → visits_made before k ≤ visits_made (before ++ x ∷ []) k
    made-kept k = let a = visits-append k before (x ∷ []) in omega (arith, a)

    pub segment-kept : segment_after before ≤ segment_after (before ++ x ∷ [])
    segment-kept = let a = leaves-append before (x ∷ []) in omega (arith, a)

    at_hand-kept : (p : Occ) → IsAtHand visits r before p → IsAtHand visits r (before ++ x ∷ []) p
    at_hand-kept = at_hand-more before (before ++ x ∷ []) evaluated-kept made-kept segment-kept

  same-goal : (o p : Occ) → Eval o ≡ Eval p → o ≡ p
  same-goal o p e = ap (λ x. evaluated-by x o) e

  -- an evaluation
  module _ (before : List PlanItem) (o : Occ) where
    eval-made : (k : ℕ) → visits_made (before ++ Eval o ∷ []) k ≡ visits_made before k
    eval-made k = let a = visits-append k before (Eval o ∷ []) in let b : visits_made (Eval o ∷ []) k ≡ 0 = refl in omega (arith, a, b)

    pub eval-segment : segment_after (before ++ Eval o ∷ []) ≡ segment_after before
    eval-segment = let a = leaves-append before (Eval o ∷ []) in let b : count_by is_leave (Eval o ∷ []) ≡ 0 = refl in omega (arith, a, b)

    eval-evaluated : (p : Occ) → IsEvaluated (before ++ Eval o ∷ []) p ↔ (IsEvaluated before p ⊎ (p ≡ o))
    eval-evaluated p = (
      (λ m. elim (Contains-push_cases before (Eval o) (Eval p) m) [ inl i ↦ inl i | inr e ↦ inr (sym (same-goal o p e)) ]),
      (λ h. elim h [ inl i ↦ evaluated-kept before (Eval o) p i | inr e ↦ subst (λ q. IsEvaluated (before ++ Eval o ∷ []) q) (sym e) (Contains-push before (Eval o)) ]),
    )

    eval-at_hand : (p : Occ) → IsAtHand visits r (before ++ Eval o ∷ []) p ↔ (IsAtHand visits r before p ⊎ (p ≡ o))
    eval-at_hand p = (forth, back)
      where
        forth : IsAtHand visits r (before ++ Eval o ∷ []) p → IsAtHand visits r before p ⊎ (p ≡ o)
        forth (inl e) = elim ((eval-evaluated p).0 e) [ inl i ↦ inl (inl i) | inr s ↦ inr s ]
        forth (inr (inl (z, v, c, l, at, m))) = let h = eval-made p.occ in inl (inr (inl (z, v, c, (omega (arith, l, h)), at, m)))
        forth (inr (inr (z, v, c, l, at, m))) = let h = eval-segment in inl (inr (inr (z, v, c, (omega (arith, l, h)), at, m)))

        back : IsAtHand visits r before p ⊎ (p ≡ o) → IsAtHand visits r (before ++ Eval o ∷ []) p
        back (inl h) = at_hand-kept before (Eval o) p h
        back (inr e) = inl ((eval-evaluated p).1 (inr e))

  -- a visit of a child
  module _ (before : List PlanItem) (k v : ℕ) where
    visit-evaluated : (p : Occ) → IsEvaluated (before ++ Visit k v ∷ []) p ↔ IsEvaluated before p
    visit-evaluated p = ((λ m. elim (Contains-push_cases before (Visit k v) (Eval p) m) [ inl i ↦ i | inr e ↦ absurd (true≢false (sym (ap is_evaluation e))) ]), evaluated-kept before (Visit k v) p)

    pub visit-segment : segment_after (before ++ Visit k v ∷ []) ≡ segment_after before
    visit-segment = let a = leaves-append before (Visit k v ∷ []) in let b : count_by is_leave (Visit k v ∷ []) ≡ 0 = refl in omega (arith, a, b)

    visit-at_hand : 0 < k → v ≡ suc (visits_made before k) → (p : Occ)
        → IsAtHand visits r (before ++ Visit k v ∷ []) p ↔ (IsAtHand visits r before p ⊎ ((p.occ ≡ k) × PassesIn (λ (c : VisitClass). c.synthesized) (visits_there visits r k) v p.attr))
    visit-at_hand pos next p = (forth, back)
      where
        forth : IsAtHand visits r (before ++ Visit k v ∷ []) p → IsAtHand visits r before p ⊎ ((p.occ ≡ k) × PassesIn (λ (c : VisitClass). c.synthesized) (visits_there visits r k) v p.attr)
        forth (inl e) = inl (inl ((visit-evaluated p).0 e))
        forth (inr (inr (z, u, c, l, at, m))) = let h = visit-segment in inl (inr (inr (z, u, c, (omega (arith, l, h)), at, m)))
        forth (inr (inl (z, u, c, l, at, m))) = go (cases_eq k p.occ)
          where
            here : (u : ℕ) → IsClassAt visits r p.occ u c → k ≡ p.occ → u ≡ v → PassesIn (λ (c : VisitClass). c.synthesized) (visits_there visits r k) v p.attr
            here zero at' e f = absurd at'
            here (suc u') at' e f = (u', c, sym f, subst (λ n. slice_get (visits_there visits r n) u' ≡ Some c) (sym e) (class-row p.occ u' c at'), m)

            go : (k ≡ p.occ) ⊎ (k ≡ p.occ → ⊥) → IsAtHand visits r before p ⊎ ((p.occ ≡ k) × PassesIn (λ (c : VisitClass). c.synthesized) (visits_there visits r k) v p.attr)
            go (inr n) = let h = visit-counts_other before k v p.occ n in inl (inr (inl (z, u, c, (omega (arith, l, h)), at, m)))
            go (inl e) = elim (cases_lt u v) [
              | inl i ↦ (let h = ap (λ n. visits_made before n) e in inl (inr (inl (z, u, c, (omega (arith, i, next, h)), at, m))))
              | inr g ↦ (let h = visit-counts_same before k v in let s = ap (λ n. visits_made (before ++ Visit k v ∷ []) n) e in inr (sym e, here u at e (omega (arith, g, l, h, s, next))))
            ]

        back : IsAtHand visits r before p ⊎ ((p.occ ≡ k) × PassesIn (λ (c : VisitClass). c.synthesized) (visits_there visits r k) v p.attr) → IsAtHand visits r (before ++ Visit k v ∷ []) p
        back (inl h) = at_hand-kept before (Visit k v) p h
        back (inr (e, (u, c, f, at, m))) =
            let h = visit-counts_same before k v in let s = ap (λ n. visits_made (before ++ Visit k v ∷ []) n) e in
            inr (inl ((omega (arith, e, pos)), suc u, c, (omega (arith, h, s, f, next)), row-class p.occ u c (subst (λ n. slice_get (visits_there visits r n) u ≡ Some c) (sym e) at), m))

  -- the end of a visit
  module _ (before : List PlanItem) (v : ℕ) where
    leave-evaluated : (p : Occ) → IsEvaluated (before ++ Leave v ∷ []) p ↔ IsEvaluated before p
    leave-evaluated p = ((λ m. elim (Contains-push_cases before (Leave v) (Eval p) m) [ inl i ↦ i | inr e ↦ absurd (true≢false (sym (ap is_evaluation e))) ]), evaluated-kept before (Leave v) p)

    leave-made : (k : ℕ) → visits_made (before ++ Leave v ∷ []) k ≡ visits_made before k
    leave-made k = let a = visits-append k before (Leave v ∷ []) in let b : visits_made (Leave v ∷ []) k ≡ 0 = refl in omega (arith, a, b)

    pub leave-segment : segment_after (before ++ Leave v ∷ []) ≡ suc (segment_after before)
    leave-segment = let a = leaves-append before (Leave v ∷ []) in let b : count_by is_leave (Leave v ∷ []) ≡ 1 = refl in omega (arith, a, b)

    leave-at_hand : v ≡ segment_after before → (p : Occ)
        → IsAtHand visits r (before ++ Leave v ∷ []) p ↔ (IsAtHand visits r before p ⊎ ((p.occ ≡ 0) × PassesIn (λ (c : VisitClass). c.inherited) (visits_there visits r 0) (v + 1) p.attr))
    leave-at_hand own p = (forth, back)
      where
        forth : IsAtHand visits r (before ++ Leave v ∷ []) p → IsAtHand visits r before p ⊎ ((p.occ ≡ 0) × PassesIn (λ (c : VisitClass). c.inherited) (visits_there visits r 0) (v + 1) p.attr)
        forth (inl e) = inl (inl ((leave-evaluated p).0 e))
        forth (inr (inl (z, u, c, l, at, m))) = let h = leave-made p.occ in inl (inr (inl (z, u, c, (omega (arith, l, h)), at, m)))
        forth (inr (inr (z, zero, c, l, at, m))) = absurd at
        forth (inr (inr (z, suc u, c, l, at, m))) = let h = leave-segment in elim (cases_lt u v) [
          | inl i ↦ inl (inr (inr (z, suc u, c, (omega (arith, i, own)), at, m)))
          | inr g ↦ inr (z, (u, c, (omega (arith, g, l, h, own)), class-row 0 u c at, m))
        ]

        back : IsAtHand visits r before p ⊎ ((p.occ ≡ 0) × PassesIn (λ (c : VisitClass). c.inherited) (visits_there visits r 0) (v + 1) p.attr) → IsAtHand visits r (before ++ Leave v ∷ []) p
        back (inl h) = at_hand-kept before (Leave v) p h
        back (inr (e, (u, c, f, at, m))) = let h = leave-segment in inr (inr (e, suc u, c, (omega (arith, f, own, h)), row-class 0 u c at, m))

  -- the progress follows one more item
  module _ (p q : Progress) (follows : Follows visits r p) where
    abbrev Old : List PlanItem
    Old = p.items.items

    pub follows-eval : (o : Occ) → q.items.items ≡ p.items.items ++ Eval o ∷ [] → o.occ < length (symbols_of r) → o.attr.0 < 256 → q.made ≡ p.made → q.segment ≡ p.segment → length q.evaluated.items ≡ length p.evaluated.items
        → length q.at_hand.items ≡ length p.at_hand.items → Evaluates p.evaluated.items q.evaluated.items o → Evaluates p.at_hand.items q.at_hand.items o → Follows visits r q
    follows-eval o items occ attr made segment each each' evaluated at_hand = record {
      evaluated = λ u. (
        (λ bit. subst (λ l. IsEvaluated l u) (sym items) ((eval-evaluated Old o u).1 (elim ((evaluated u).0 bit) [ inl i ↦ inl ((follows.evaluated u).0 i) | inr h ↦ inr h.0 ]))),
        (λ e. (evaluated u).1 (elim ((eval-evaluated Old o u).0 (subst (λ l. IsEvaluated l u) items e)) [ inl i ↦ inl ((follows.evaluated u).1 i) | inr h ↦ inr (h, (let s = follows.each_evaluated in omega (arith, occ, s)), attr) ])),
      );
      at_hand = λ u. (
        (λ bit. subst (λ l. IsAtHand visits r l u) (sym items) ((eval-at_hand Old o u).1 (elim ((at_hand u).0 bit) [ inl i ↦ inl ((follows.at_hand u).0 i) | inr h ↦ inr h.0 ]))),
        (λ e. (at_hand u).1 (elim ((eval-at_hand Old o u).0 (subst (λ l. IsAtHand visits r l u) items e)) [ inl i ↦ inl ((follows.at_hand u).1 i) | inr h ↦ inr (h, (let s = follows.each_at_hand in omega (arith, occ, s)), attr) ])),
      );
      each_evaluated = each ∙ follows.each_evaluated;
      each_at_hand = each' ∙ follows.each_at_hand;
      each_made = ap (λ v. length v.items) made ∙ follows.each_made;
      made = λ k h. ap (λ v. slice_index v.items k) made ∙ (follows.made k h ∙ (sym (eval-made Old o k) ∙ ap (λ l. visits_made l k) (sym items)));
      segment = segment ∙ (follows.segment ∙ (sym (eval-segment Old o) ∙ ap segment_after (sym items)));
    }

    pub follows-visit : (k v : ℕ) → q.items.items ≡ p.items.items ++ Visit k v ∷ [] → 0 < k → k < length (symbols_of r) → v ≡ suc (visits_made p.items.items k)
        → ((a : AttrId) → PassesIn (λ (c : VisitClass). c.synthesized) (visits_there visits r k) v a → a.0 < 256) → q.evaluated ≡ p.evaluated → q.segment ≡ p.segment → length q.at_hand.items ≡ length p.at_hand.items
        → q.made.items ≡ slice_set p.made.items k v → Passes (λ (c : VisitClass). c.synthesized) (visits_there visits r k) v p.at_hand.items q.at_hand.items k → Follows visits r q
    follows-visit k v items pos inside next few evaluated segment each made at_hand = record {
      evaluated = λ u. (
        (λ bit. subst (λ l. IsEvaluated l u) (sym items) ((visit-evaluated Old k v u).1 ((follows.evaluated u).0 (subst (λ s. HasBit s.items u) evaluated bit)))),
        (λ e. subst (λ s. HasBit s.items u) (sym evaluated) ((follows.evaluated u).1 ((visit-evaluated Old k v u).0 (subst (λ l. IsEvaluated l u) items e)))),
      );
      at_hand = λ u. (
        (λ bit. subst (λ l. IsAtHand visits r l u) (sym items) ((visit-at_hand Old k v pos next u).1 (elim ((at_hand u).0 bit) [ inl i ↦ inl ((follows.at_hand u).0 i) | inr h ↦ inr (h.0, h.3) ]))),
        (λ e. (at_hand u).1 (elim ((visit-at_hand Old k v pos next u).0 (subst (λ l. IsAtHand visits r l u) items e)) [ inl i ↦ inl ((follows.at_hand u).1 i) | inr h ↦ inr (h.0, (let s = follows.each_at_hand in omega (arith, inside, s)), few u.attr h.1, h.1) ])),
      );
      each_evaluated = ap (λ s. length s.items) evaluated ∙ follows.each_evaluated;
      each_at_hand = each ∙ follows.each_at_hand;
      each_made = ap (λ (l : List ℕ). length l) made ∙ (length-set p.made.items k v ∙ follows.each_made);
      made = λ j h. ap (λ (l : List ℕ). slice_index l j) made ∙ (count j h ∙ ap (λ l. visits_made l j) (sym items));
      segment = segment ∙ (follows.segment ∙ (sym (visit-segment Old k v) ∙ ap segment_after (sym items)));
    }
      where
        count : (j : ℕ) → j < length (symbols_of r) → slice_index (slice_set p.made.items k v) j ≡ visits_made (p.items.items ++ Visit k v ∷ []) j
        count j h = go (cases_eq k j)
          where
            go : (k ≡ j) ⊎ (k ≡ j → ⊥) → slice_index (slice_set p.made.items k v) j ≡ visits_made (p.items.items ++ Visit k v ∷ []) j
            go (inl e) = subst (λ i. slice_index (slice_set p.made.items k v) i ≡ visits_made (p.items.items ++ Visit k v ∷ []) i) e
                (get_or-set_same p.made.items k v 0 (let s = follows.each_made in omega (arith, inside, s)) ∙ (next ∙ sym (visit-counts_same p.items.items k v)))
            go (inr n) = get_or-set_other p.made.items k j v 0 (λ e. n (sym e)) ∙ (follows.made j h ∙ sym (visit-counts_other p.items.items k v j n))

    pub follows-leave : (v : ℕ) → q.items.items ≡ p.items.items ++ Leave v ∷ [] → v ≡ segment_after p.items.items
        → ((a : AttrId) → PassesIn (λ (c : VisitClass). c.inherited) (visits_there visits r 0) (v + 1) a → a.0 < 256) → q.evaluated ≡ p.evaluated → q.made ≡ p.made → length q.at_hand.items ≡ length p.at_hand.items
        → q.segment ≡ v + 1 → Passes (λ (c : VisitClass). c.inherited) (visits_there visits r 0) (v + 1) p.at_hand.items q.at_hand.items 0 → Follows visits r q
    follows-leave v items own few evaluated made each segment at_hand = record {
      evaluated = λ u. (
        (λ bit. subst (λ l. IsEvaluated l u) (sym items) ((leave-evaluated Old v u).1 ((follows.evaluated u).0 (subst (λ s. HasBit s.items u) evaluated bit)))),
        (λ e. subst (λ s. HasBit s.items u) (sym evaluated) ((follows.evaluated u).1 ((leave-evaluated Old v u).0 (subst (λ l. IsEvaluated l u) items e)))),
      );
      at_hand = λ u. (
        (λ bit. subst (λ l. IsAtHand visits r l u) (sym items) ((leave-at_hand Old v own u).1 (elim ((at_hand u).0 bit) [ inl i ↦ inl ((follows.at_hand u).0 i) | inr h ↦ inr (h.0, h.3) ]))),
        (λ e. (at_hand u).1 (elim ((leave-at_hand Old v own u).0 (subst (λ l. IsAtHand visits r l u) items e)) [ inl i ↦ inl ((follows.at_hand u).1 i) | inr h ↦ inr (h.0, (let s = follows.each_at_hand in omega (arith, s)), few u.attr h.1, h.1) ])),
      );
      each_evaluated = ap (λ s. length s.items) evaluated ∙ follows.each_evaluated;
      each_at_hand = each ∙ follows.each_at_hand;
      each_made = ap (λ s. length s.items) made ∙ follows.each_made;
      made = λ k h. ap (λ s. slice_index s.items k) made ∙ (follows.made k h ∙ (sym (leave-made Old v k) ∙ ap (λ l. visits_made l k) (sym items)));
      segment = (let a = leave-segment Old v in let b = ap segment_after items in omega (arith, segment, own, a, b));
    }
