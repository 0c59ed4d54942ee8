-- The progress follows the item that is chosen.
use Rattle.std.specs.Prelude.{Contains, slice_get, slice_index, replicate, IsSome, IsBitSet, ◌↔◌, map, take}
use Rattle.std.proofs.Common.{◌≡◌, ℕ, zero, suc, ◌<◌, ◌+◌, ◌⊎◌, inl, inr, List, [], ◌∷◌, ◌++◌, length, get_or, arith, ap, sym, subst, ◌∙◌}
use Rattle.std.proofs.lemmas.Bool.{cases_lt}
use Rattle.std.proofs.lemmas.Option.{slice_get_within}
use Rattle.std.proofs.lemmas.List.{get_or-replicate, length-replicate, map-append, take_more, get_or_past}
use Rattle.lido_base.specs.declared.ids.SymId.{SymId}
use Rattle.lido_base.specs.declared.ids.AttrId.{AttrId}
use Rattle.flat_grammar.specs.declared.flat.Occ.{Occ}
use Rattle.flat_grammar.specs.declared.flat.FlatSymbol.{FlatSymbol}
use Rattle.flat_grammar.specs.declared.flat.FlatRule.{FlatRule}
use Rattle.flat_grammar.specs.declared.flat.FlatComp.{FlatComp}
use Rattle.flat_grammar.specs.declared.flat.Shape.{Shape}
use Rattle.flat_grammar.specs.declared.plan.VisitClass.{VisitClass}
use Rattle.flat_grammar.specs.declared.plan.PlanItem.{PlanItem}
use Rattle.flat_grammar.specs.declared.plan.PlanItem.TheVariants.{Eval, Visit, Leave}
use Rattle.flat_grammar.specs.Rules.{symbols_of}
use Rattle.flat_grammar.specs.WellFormed.{IsWellFormed, attribute_of}
use Rattle.flat_grammar.specs.Partition.{AreAllVisits}
use Rattle.flat_grammar.specs.SoundPlan.{goals_of, segment_after, visits_made, IsEvaluated, IsClassAt, IsAtHand}
use Rattle.flat_grammar.specs.Construction.{IsChosen, evaluation}
use Rattle.flat_grammar.proofs.Lists.{contains-nil}
use Rattle.visit_sequences.specs.declared.goals.Goal.{Goal}
use Rattle.visit_sequences.specs.declared.progress.Progress.{Progress}
use Rattle.visit_sequences.specs.Steps.{visits_there, PassesIn, HasBit, HasBitsOf, Adds, Evaluates, Passes, Follows}
use Rattle.flat_grammar.proofs.BitsLemmas.{empty-set}
use Rattle.visit_sequences.proofs.Classes.{inherited-kind, synthesized-kind, some-is}
use Rattle.visit_sequences.proofs.Occurrences.{symbol-there, goal-attribute}
use Rattle.visit_sequences.proofs.ProgressLemmas.{row-at}
use Rattle.visit_sequences.proofs.Soundness.{leave-is, visit-next}
use Rattle.visit_sequences.proofs.GoalLemmas.{few, few-at}
use Rattle.visit_sequences.proofs.StepLemmas.{row-class, class-row, follows-eval, follows-visit, follows-leave}

chosen-eval : (symbols : List FlatSymbol) (rules : List FlatRule) (visits : List (List VisitClass)) (r : FlatRule) (before : List PlanItem) (o : Occ) → IsChosen symbols rules visits r before (Eval o) → Contains (goals_of r) o
chosen-eval symbols rules visits r before o (evaluation (left, h) least) = left.0

module _ (symbols : List FlatSymbol) (rules : List FlatRule) (shapes : List Shape) (root : SymId) (w : IsWellFormed symbols rules shapes root)
    (visits : List (List VisitClass)) (all : AreAllVisits symbols rules visits) (r : FlatRule) (among : Contains rules r) where
  few-synthesized : (k v : ℕ) (a : AttrId) → PassesIn (λ (c : VisitClass). c.synthesized) (visits_there visits r k) v a → a.0 < 256
  few-synthesized k v a (u, c, e, f, m) =
      let p = row-at symbols rules shapes root w visits all r among k u c (row-class visits r k u c f) in
      let h = synthesized-kind symbols rules p.0 p.1 p.5 u c a p.4 m in few symbols rules shapes root w p.0 a (some-is _ h.0 h.1)

  few-inherited : (k v : ℕ) (a : AttrId) → PassesIn (λ (c : VisitClass). c.inherited) (visits_there visits r k) v a → a.0 < 256
  few-inherited k v a (u, c, e, f, m) =
      let p = row-at symbols rules shapes root w visits all r among k u c (row-class visits r k u c f) in
      let h = inherited-kind symbols rules p.0 p.1 p.5 u c a p.4 m in few symbols rules shapes root w p.0 a (some-is _ h.0 h.1)

  class-inside : (k v : ℕ) (c : VisitClass) → IsClassAt visits r k v c → k < length (symbols_of r)
  class-inside k zero c h = absurd h
  class-inside k (suc v) c (s, row, at, e, f) = slice_get_within (symbols_of r) k s at

  module _ (p q : Progress) (follows : Follows visits r p) where
    pub taken-eval : (o : Occ) → IsChosen symbols rules visits r p.items.items (Eval o) → q.items.items ≡ p.items.items ++ Eval o ∷ [] → q.made ≡ p.made → q.segment ≡ p.segment → length q.evaluated.items ≡ length p.evaluated.items
        → length q.at_hand.items ≡ length p.at_hand.items → Evaluates p.evaluated.items q.evaluated.items o → Evaluates p.at_hand.items q.at_hand.items o → Follows visits r q
    taken-eval o chosen items made segment each each' evaluated at_hand =
        let some : IsSome (attribute_of symbols r o) = goal-attribute symbols rules shapes root w r among o (chosen-eval symbols rules visits r p.items.items o chosen) in
        let s = symbol-there symbols r o some in
        follows-eval visits r p q follows o items (slice_get_within (symbols_of r) o.occ s.0 s.1) (few-at symbols rules shapes root w r o some) made segment each each' evaluated at_hand

    pub taken-visit : (k v : ℕ) → IsChosen symbols rules visits r p.items.items (Visit k v) → q.items.items ≡ p.items.items ++ Visit k v ∷ [] → q.evaluated ≡ p.evaluated → q.segment ≡ p.segment → length q.at_hand.items ≡ length p.at_hand.items
        → q.made.items ≡ Rattle.std.specs.Prelude.slice_set p.made.items k v → Passes (λ (c : VisitClass). c.synthesized) (visits_there visits r k) v p.at_hand.items q.at_hand.items k → Follows visits r q
    taken-visit k v chosen items evaluated segment each made at_hand =
        let n = visit-next symbols rules visits r p.items.items k v chosen in
        follows-visit visits r p q follows k v items n.1.0 (class-inside k v n.0 n.1.2) n.1.1 (few-synthesized k v) evaluated segment each made at_hand

    pub taken-leave : (v : ℕ) → IsChosen symbols rules visits r p.items.items (Leave v) → q.items.items ≡ p.items.items ++ Leave v ∷ [] → q.evaluated ≡ p.evaluated → q.made ≡ p.made → length q.at_hand.items ≡ length p.at_hand.items
        → q.segment ≡ v + 1 → Passes (λ (c : VisitClass). c.inherited) (visits_there visits r 0) (v + 1) p.at_hand.items q.at_hand.items 0 → Follows visits r q
    taken-leave v chosen items evaluated made each segment at_hand =
        follows-leave visits r p q follows v items (leave-is symbols rules visits r p.items.items v chosen) (few-inherited 0 (v + 1)) evaluated made each segment at_hand

  zero-sets : (n i j : ℕ) → IsBitSet (slice_index (replicate n 0) i) j → ⊥
  zero-sets n i j h = empty-set j (subst (λ b. IsBitSet b j) none h)
    where
      none : slice_index (replicate n 0) i ≡ 0
      none = elim (cases_lt i n) [ inl l ↦ get_or-replicate n i 0 0 l | inr g ↦ get_or_past (replicate n 0) i 0 (let e = length-replicate {A = ℕ} n 0 in omega (arith, e, g)) ]

  -- before the first item
  pub follows-start : (p : Progress) (n : ℕ) (more : ℕ) → n ≡ length (symbols_of r) → p.items.items ≡ [] → p.evaluated.items ≡ replicate n 0 → p.made.items ≡ replicate n 0 → p.segment ≡ 1 → length p.at_hand.items ≡ n
      → Adds (replicate n 0) p.at_hand.items 0 more → HasBitsOf (λ (c : VisitClass). c.inherited) (visits_there visits r 0) 1 more → Follows visits r p
  follows-start p n more count items evaluated made segment each added has = record {
    evaluated = λ o. (
      (λ bit. absurd (zero-sets n o.occ o.attr.0 (subst (λ (l : List ℕ). HasBit l o) evaluated bit))),
      (λ e. absurd (contains-nil (Eval o) (subst (λ l. IsEvaluated l o) items e))),
    );
    at_hand = λ o. ((λ bit. subst (λ l. IsAtHand visits r l o) (sym items) (forth o bit)), (λ h. back o (subst (λ l. IsAtHand visits r l o) items h)));
    each_evaluated = ap (λ (l : List ℕ). length l) evaluated ∙ (length-replicate {A = ℕ} n 0 ∙ count);
    each_at_hand = each ∙ count;
    each_made = ap (λ (l : List ℕ). length l) made ∙ (length-replicate {A = ℕ} n 0 ∙ count);
    made = λ k h. ap (λ (l : List ℕ). slice_index l k) made ∙ (get_or-replicate n k 0 0 (omega (arith, h, count)) ∙ ap (λ l. visits_made l k) (sym items));
    segment = segment ∙ ap segment_after (sym items);
  }
    where
      forth : (o : Occ) → HasBit p.at_hand.items o → IsAtHand visits r [] o
      forth o bit = go ((added o.occ o.attr.0).0 bit)
        where
          go : IsBitSet (slice_index (replicate n 0) o.occ) o.attr.0 ⊎ ((o.occ ≡ 0) × (0 < length {A = ℕ} (replicate n 0)) × IsBitSet more o.attr.0) → IsAtHand visits r [] o
          go (inl h) = absurd (zero-sets n o.occ o.attr.0 h)
          go (inr (e, l, b)) = let h = (has o.attr).0 b in give h.1
            where
              give : PassesIn (λ (c : VisitClass). c.inherited) (visits_there visits r 0) 1 o.attr → IsAtHand visits r [] o
              give (v, c, f, at, m) = inr (inr (e, suc v, c, (omega (arith, f)), row-class visits r 0 v c at, m))

      back : (o : Occ) → IsAtHand visits r [] o → HasBit p.at_hand.items o
      back o (inl e) = absurd (contains-nil (Eval o) e)
      back o (inr (inl (z, zero, c, l, at, m))) = absurd at
      back o (inr (inl (z, suc v, c, l, at, m))) = absurd (omega (arith, l))
      back o (inr (inr (z, zero, c, l, at, m))) = absurd at
      back o (inr (inr (z, suc v, c, l, at, m))) =
          let one : 1 ≡ suc v = omega (arith, l) in
          let passes : PassesIn (λ (c : VisitClass). c.inherited) (visits_there visits r 0) 1 o.attr = (v, c, one, class-row visits r 0 v c at, m) in
          let e = length-replicate {A = ℕ} n 0 in
          (added o.occ o.attr.0).1 (inr (z, (omega (arith, count, e)), (has o.attr).1 (few-inherited 0 1 o.attr passes, passes)))

-- one more goal
pub goals-push : (comps given : List FlatComp) (i : ℕ) (old new : List Goal) (g : Goal) (c : FlatComp) → given ≡ comps → i < length given → c ≡ get_or given i c → new ≡ old ++ g ∷ [] → g.goal ≡ c.goal
    → map (λ (x : Goal). x.goal) old ≡ map (λ (d : FlatComp). d.goal) (take i comps) → map (λ (x : Goal). x.goal) new ≡ map (λ (d : FlatComp). d.goal) (take (i + 1) comps)
goals-push comps given i old new g c same inside is pushed goal so_far =
    let at : get_or comps i c ≡ c = ap (λ l. get_or l i c) (sym same) ∙ sym is in
    let l = ap (λ (l : List FlatComp). length l) same in
    ap (map (λ (x : Goal). x.goal)) pushed ∙ (map-append (λ (x : Goal). x.goal) old (g ∷ []) ∙ (ap (λ l. l ++ g.goal ∷ []) so_far ∙ (ap (λ o. map (λ (d : FlatComp). d.goal) (take i comps) ++ o ∷ []) (goal ∙ ap (λ (d : FlatComp). d.goal) (sym at))
    ∙ (sym (map-append (λ (d : FlatComp). d.goal) (take i comps) (get_or comps i c ∷ [])) ∙ ap (map (λ (d : FlatComp). d.goal)) (sym (take_more comps i c (omega (arith, inside, l))))))))
