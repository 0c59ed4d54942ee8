-- Where the extended dependencies have no cycle, a constructed sequence is sound.
use Rattle.std.specs.Prelude.{Contains, slice_get, count_by, nat_eq, take}
use Rattle.std.proofs.Common.{◌≡◌, ℕ, zero, suc, ◌<◌, ◌≤◌, ◌+◌, ◌⊎◌, inl, inr, List, [], ◌∷◌, ◌++◌, length, drop, get_or, Some, None, true, cond, refl, arith, ap, sym, subst, ◌∙◌, length-append}
use Rattle.std.proofs.Math.Seq.{take-append_seam}
use Rattle.std.proofs.lemmas.Bool.{cases_lt, eqb-true, cases_Bool}
use Rattle.std.proofs.lemmas.Option.{slice_get_within, slice_get_cases, slice_get-get_or}
use Rattle.std.proofs.lemmas.List.{take_all, take_more, take-append-le, take-append-drop}
use Rattle.std.proofs.lemmas.List.Elements.{All-contains, Contains-append_left}
use Rattle.std.proofs.lemmas.List.Sums.{sum_by-append, sum_by-cons}
use Rattle.lido_base.specs.declared.ids.SymId.{SymId}
use Rattle.lido_base.specs.declared.ids.AttrId.{AttrId}
use Rattle.flat_grammar.specs.declared.flat.Occ.{Occ}
use Rattle.flat_grammar.specs.declared.flat.FlatSymbol.{FlatSymbol}
use Rattle.flat_grammar.specs.declared.flat.FlatRule.{FlatRule}
use Rattle.flat_grammar.specs.declared.flat.Shape.{Shape}
use Rattle.flat_grammar.specs.declared.plan.Label.TheVariants.{Direct}
use Rattle.flat_grammar.specs.declared.plan.VisitClass.{VisitClass}
use Rattle.flat_grammar.specs.declared.plan.PlanItem.{PlanItem}
use Rattle.flat_grammar.specs.declared.plan.PlanItem.TheVariants.{Eval, Visit, Leave}
use Rattle.flat_grammar.specs.Rules.{symbol_at, dependencies}
use Rattle.flat_grammar.specs.WellFormed.{IsWellFormed}
use Rattle.flat_grammar.specs.Cycles.{direct, IsAcyclic}
use Rattle.flat_grammar.specs.Partition.{AreVisits, AreAllVisits}
use Rattle.flat_grammar.specs.SoundPlan.{goals_of, is_leave, is_visit_of, segment_after, visits_made, IsEvaluated, IsEvaluatedAll, IsClassAt, IsAtHand, Allows, AllowsNext, AllowsEnd, IsSoundSequence}
use Rattle.flat_grammar.specs.Construction.{IsNext, IsLastSegment, HasReady, HasReadyVisit, HasNext, IsChosen, evaluation, ready_visit, next_visit, leave, IsConstructed}
use Rattle.flat_grammar.proofs.Lists.{held}
use Rattle.visit_sequences.proofs.ClosedWalks.{all-from_each}
use Rattle.visit_sequences.proofs.Classes.{row-there, inherited-kind}
use Rattle.visit_sequences.proofs.Occurrences.{rule-is, goal-attribute, right-goal}
use Rattle.visit_sequences.proofs.ProgressLemmas.{evaluated-or, evaluated_all-or, row-at, class-done, all-done}

pub leaves-append : (xs ys : List PlanItem) → count_by is_leave (xs ++ ys) ≡ count_by is_leave xs + count_by is_leave ys
leaves-append xs ys = sum_by-append (λ x. cond (is_leave x) 1 0) xs ys

pub visits-append : (k : ℕ) (xs ys : List PlanItem) → visits_made (xs ++ ys) k ≡ visits_made xs k + visits_made ys k
visits-append k xs ys = sum_by-append (λ x. cond (is_visit_of k x) 1 0) xs ys

leaves-take : (n : ℕ) (xs : List PlanItem) → count_by is_leave (take n xs) ≤ count_by is_leave xs
leaves-take n xs = let e = ap (λ l. count_by is_leave l) (take-append-drop n xs) in let f = leaves-append (take n xs) (drop n xs) in omega (arith, e, f)

slice_get-middle : (front : List PlanItem) (x : PlanItem) → slice_get (front ++ x ∷ []) (length front) ≡ Some x
slice_get-middle [] x = refl
slice_get-middle (y ∷ front) x = slice_get-middle front x

module _ (visits : List (List VisitClass)) (r : FlatRule) where
  -- a visit has one class
  pub class-only : (k v : ℕ) (c d : VisitClass) → IsClassAt visits r k v c → IsClassAt visits r k v d → c ≡ d
  class-only k zero c d p q = absurd p
  class-only k (suc v) c d (s, row, at, e, f) (s', row', at', e', f') =
      let same : s ≡ s' = held (sym at ∙ at') in
      let rows : row ≡ row' = held (sym e ∙ (ap (λ (q : SymId). slice_get visits q.0) same ∙ e')) in
      held (sym f ∙ (ap (λ (l : List VisitClass). slice_get l v) rows ∙ f'))

module _ (symbols : List FlatSymbol) (rules : List FlatRule) (visits : List (List VisitClass)) (r : FlatRule) where
  pub leave-is : (before : List PlanItem) (n : ℕ) → IsChosen symbols rules visits r before (Leave n) → n ≡ segment_after before
  leave-is before n (leave a b c) = refl

  pub leave-quiet : (before : List PlanItem) (n : ℕ) → IsChosen symbols rules visits r before (Leave n)
      → (HasReady symbols rules visits r before → ⊥) × (HasReadyVisit symbols rules visits r before → ⊥) × (HasNext symbols rules visits r before → ⊥)
  leave-quiet before n (leave a b c) = (a, b, c)

  pub visit-next : (before : List PlanItem) (k v : ℕ) → IsChosen symbols rules visits r before (Visit k v) → (class : VisitClass) × IsNext symbols rules visits r before k v class
  visit-next before k v (ready_visit n owing (class, next, done, useful) least) = (class, next)
  visit-next before k v (next_visit class n m last next least) = (class, next)

module _ (symbols : List FlatSymbol) (rules : List FlatRule) (shapes : List Shape) (root : SymId) (w : IsWellFormed symbols rules shapes root)
    (visits : List (List VisitClass)) (all : AreAllVisits symbols rules visits) (r : FlatRule) (among : Contains rules r) (acyclic : IsAcyclic symbols rules r) where
  -- the left side's visits
  pub left-row : (row : List VisitClass) × (slice_get visits r.left.0 ≡ Some row) × AreVisits symbols rules r.left row
  left-row = row-there symbols rules visits all r.left (rule-is symbols rules shapes root w r among).left_side

  module _ (before : List PlanItem) (quiet : HasReady symbols rules visits r before → ⊥) (silent : HasReadyVisit symbols rules visits r before → ⊥) where
    -- in the last visit nothing is left where nothing is ready
    pub last-done : IsLastSegment symbols rules visits r before → (o : Occ) → Contains (goals_of r) o → IsEvaluated before o
    last-done last o m = elim (evaluated-or before o) [
      | inl d ↦ d
      | inr n ↦ absurd (n (all-done symbols rules shapes root w visits all r among before acyclic quiet (λ k v ready. silent (inr (last, o, (m, n)), k, v, ready)) last o m))
    ]

    -- the visit owes nothing where nothing is ready
    visit-done : (class : VisitClass) → IsClassAt visits r 0 (segment_after before) class → IsEvaluatedAll before 0 class.synthesized
    visit-done class at = elim (evaluated_all-or before 0 class.synthesized) [ inl d ↦ d | inr p ↦ absurd (go p.0 p.1 p.2) ]
      where
        go : (a : AttrId) → Contains class.synthesized a → (IsEvaluated before (record { occ = 0; attr = a }) → ⊥) → ⊥
        go a m n =
            let same : segment_after before ≡ suc (count_by is_leave before) = omega arith in
            n (class-done symbols rules shapes root w visits all r among before acyclic quiet
            (λ k v ready. silent (inl (class, at, (λ d. n (All-contains (λ (b : AttrId). IsEvaluated before (record { occ = 0; attr = b })) class.synthesized a d m))), k, v, ready))
            class (count_by is_leave before) same (subst (λ v. IsClassAt visits r 0 v class) same at) a m)

  -- the clauses allow a chosen item
  chosen-allowed : (before : List PlanItem) (item : PlanItem) → IsChosen symbols rules visits r before item → segment_after before ≤ length left-row.0 → (clause : ℕ) → Allows symbols visits r clause before item
  chosen-allowed before item (evaluation {o} (left, at_hand) least) within clause = go clause
    where
      go : (clause : ℕ) → Allows symbols visits r clause before (Eval o)
      go zero = goal-attribute symbols rules shapes root w r among o left.0
      go (suc zero) = left
      go (suc (suc zero)) = tt
      go (suc (suc (suc zero))) = tt
      go (suc (suc (suc (suc zero)))) = λ c m e. all-from_each (IsAtHand visits r before) (dependencies c) (λ u n. at_hand u Direct (direct (c, m, n, e)))
      go (suc (suc (suc (suc (suc zero))))) = tt
      go (suc (suc (suc (suc (suc (suc n)))))) = tt
  chosen-allowed before item (ready_visit {k} {v} n owing (class, (pos, e, at), done, useful) least) within clause = go clause
    where
      go : (clause : ℕ) → Allows symbols visits r clause before (Visit k v)
      go zero = (pos, class, at)
      go (suc zero) = tt
      go (suc (suc zero)) = e
      go (suc (suc (suc zero))) = λ other there. subst (λ (c : VisitClass). IsEvaluatedAll before k c.inherited) (class-only visits r k v class other at there) done
      go (suc (suc (suc (suc zero)))) = tt
      go (suc (suc (suc (suc (suc zero))))) = tt
      go (suc (suc (suc (suc (suc (suc n)))))) = tt
  chosen-allowed before item (next_visit {k} {v} class n m last (pos, e, at) least) within clause = go clause
    where
      inherited : (w' : ℕ) (other : VisitClass) → IsClassAt visits r k w' other → (a : AttrId) → Contains other.inherited a → IsEvaluated before (record { occ = k; attr = a })
      inherited zero other there a i = absurd there
      inherited (suc x) other there a i =
          let p = row-at symbols rules shapes root w visits all r among k x other there in
          last-done before n m last (record { occ = k; attr = a }) (right-goal symbols rules shapes root w r among k p.0 a pos p.2 (inherited-kind symbols rules p.0 p.1 p.5 x other a p.4 i))

      go : (clause : ℕ) → Allows symbols visits r clause before (Visit k v)
      go zero = (pos, class, at)
      go (suc zero) = tt
      go (suc (suc zero)) = e
      go (suc (suc (suc zero))) = λ other there. all-from_each (λ (a : AttrId). IsEvaluated before (record { occ = k; attr = a })) other.inherited (inherited v other there)
      go (suc (suc (suc (suc zero)))) = tt
      go (suc (suc (suc (suc (suc zero))))) = tt
      go (suc (suc (suc (suc (suc (suc n)))))) = tt
  chosen-allowed before item (leave n m l) within clause = go clause
    where
      there : (class : VisitClass) × IsClassAt visits r 0 (segment_after before) class
      there = find (slice_get_cases left-row.0 (count_by is_leave before)).1
        where
          find : ((c : VisitClass) × (count_by is_leave before < length left-row.0) × (slice_get left-row.0 (count_by is_leave before) ≡ Some c) × (get_or left-row.0 (count_by is_leave before) c ≡ c))
              ⊎ ((length left-row.0 ≤ count_by is_leave before) × (slice_get left-row.0 (count_by is_leave before) ≡ None)) → (class : VisitClass) × IsClassAt visits r 0 (segment_after before) class
          find (inl (c, i, e, f)) =
              let same : suc (count_by is_leave before) ≡ segment_after before = omega arith in
              (c, subst (λ v. IsClassAt visits r 0 v c) same (r.left, left-row.0, refl, left-row.1, e))
          find (inr (i, e)) = absurd (omega (arith, i, within))

      go : (clause : ℕ) → Allows symbols visits r clause before (Leave (segment_after before))
      go zero = there
      go (suc zero) = tt
      go (suc (suc zero)) = tt
      go (suc (suc (suc zero))) = tt
      go (suc (suc (suc (suc zero)))) = tt
      go (suc (suc (suc (suc (suc zero))))) = (refl, visit-done before n m)
      go (suc (suc (suc (suc (suc (suc n)))))) = tt

  module _ (seq : List PlanItem) (made : IsConstructed symbols rules visits r seq) where
    abbrev front : List PlanItem
    front = made.ended.0

    whole : seq ≡ front ++ Leave (length left-row.0) ∷ []
    whole =
        let same : made.ended.1 ≡ left-row.0 = held (sym made.ended.2 ∙ left-row.1) in
        made.ended.3 ∙ ap (λ (l : List VisitClass). front ++ Leave (length l) ∷ []) same

    -- the last item ends the last visit
    last-item : IsChosen symbols rules visits r front (Leave (length left-row.0))
    last-item =
        subst (λ l. IsChosen symbols rules visits r l (Leave (length left-row.0))) (ap (λ s. take (length front) s) whole ∙ take-append_seam front (Leave (length left-row.0) ∷ []))
        (made.chosen (length front) (Leave (length left-row.0)) (ap (λ s. slice_get s (length front)) whole ∙ slice_get-middle front (Leave (length left-row.0))))

    last-segment : segment_after front ≡ length left-row.0
    last-segment = sym (leave-is symbols rules visits r front (length left-row.0) last-item)

    within : (place : ℕ) (item : PlanItem) → slice_get seq place ≡ Some item → segment_after (take place seq) ≤ length left-row.0
    within place item e =
        let l = slice_get_within seq place item e in let f = ap length whole in let g = length-append front (Leave (length left-row.0) ∷ []) in
        let same : take place seq ≡ take place front = ap (λ s. take place s) whole ∙ take-append-le place front (Leave (length left-row.0) ∷ []) (omega (arith, l, f, g)) in
        let h = leaves-take place front in let i = ap segment_after same in let j = last-segment in omega (arith, h, i, j)

    -- no child is visited more often than it has visits
    made-within : (k : ℕ) (s : SymId) (row : List VisitClass) → symbol_at r k ≡ Some s → slice_get visits s.0 ≡ Some row → (n : ℕ) → n ≤ length seq → visits_made (take n seq) k ≤ length row
    made-within k s row at e zero h = omega arith
    made-within k s row at e (suc n) h = go (slice_get_cases seq n).1 (made-within k s row at e n (omega (arith, h)))
      where
        more : (x : PlanItem) → IsChosen symbols rules visits r (take n seq) x → visits_made (take n seq) k ≤ length row → visits_made (take n seq) k + cond (is_visit_of k x) 1 0 ≤ length row
        more (Eval o) c i = omega (arith, i)
        more (Leave v) c i = omega (arith, i)
        more (Visit j v) c i = elim (cases_Bool (nat_eq j k)) [ inl t ↦ same t | inr f ↦ let g : cond (nat_eq j k) 1 0 ≡ 0 = ap (λ b. cond {A = ℕ} b 1 0) f in omega (arith, i, g) ]
          where
            same : nat_eq j k ≡ true → visits_made (take n seq) k + cond (is_visit_of k (Visit j v)) 1 0 ≤ length row
            same t = there (visit-next symbols rules visits r (take n seq) j v c)
              where
                there : (class : VisitClass) × IsNext symbols rules visits r (take n seq) j v class → visits_made (take n seq) k + cond (is_visit_of k (Visit j v)) 1 0 ≤ length row
                there (class, (pos, f, place)) =
                    let child = eqb-true j k t in
                    let number : v ≡ suc (visits_made (take n seq) k) = f ∙ ap (λ i. suc (visits_made (take n seq) i)) child in
                    let inside = class-within (visits_made (take n seq) k) class (subst (λ m. IsClassAt visits r k m class) number (subst (λ i. IsClassAt visits r i v class) child place)) in
                    let g : cond (nat_eq j k) 1 0 ≡ 1 = ap (λ b. cond {A = ℕ} b 1 0) t in omega (arith, inside, g)
                  where
                    class-within : (m : ℕ) (class : VisitClass) → IsClassAt visits r k (suc m) class → m < length row
                    class-within m class (s', row', at', e', f') =
                        let rows : row' ≡ row = held (sym e' ∙ (ap (λ (q : SymId). slice_get visits q.0) (held (sym at' ∙ at)) ∙ e)) in
                        slice_get_within row m class (ap (λ (l : List VisitClass). slice_get l m) (sym rows) ∙ f')

        go : ((x : PlanItem) × (n < length seq) × (slice_get seq n ≡ Some x) × (get_or seq n x ≡ x)) ⊎ ((length seq ≤ n) × (slice_get seq n ≡ None)) → visits_made (take n seq) k ≤ length row → visits_made (take (suc n) seq) k ≤ length row
        go (inr (i, f)) below = absurd (omega (arith, i, h))
        go (inl (x, i, f, g)) below =
            let step = more x (made.chosen n x f) below in
            let next : n + 1 ≡ suc n = omega arith in
            let same : take (suc n) seq ≡ take n seq ++ x ∷ [] = ap (λ m. take m seq) (sym next) ∙ (take_more seq n x i ∙ ap (λ y. take n seq ++ y ∷ []) g) in
            let a = ap (λ l. visits_made l k) same in
            let b = visits-append k (take n seq) (x ∷ []) in
            let c : visits_made (x ∷ []) k ≡ cond (is_visit_of k x) 1 0 + 0 = sum_by-cons (λ y. cond (is_visit_of k y) 1 0) x [] in
            omega (arith, step, a, b, c)

    last : IsLastSegment symbols rules visits r front
    last = (left-row.0, left-row.1, last-segment)

    end-allowed : (clause : ℕ) → AllowsEnd symbols visits r clause seq
    end-allowed zero = tt
    end-allowed (suc zero) =
        let done = leave-quiet symbols rules visits r front (length left-row.0) last-item in
        all-from_each (IsEvaluated seq) (goals_of r) (λ o m. subst (λ l. IsEvaluated l o) (sym whole) (Contains-append_left front (Leave (length left-row.0) ∷ []) (Eval o) (last-done front done.0 done.1 last o m)))
    end-allowed (suc (suc zero)) = λ k s row pos at n e.
        let done = leave-quiet symbols rules visits r front (length left-row.0) last-item in
        let below = made-within k s row at e (length seq) (omega arith) in
        let all-of : take (length seq) seq ≡ seq = take_all (length seq) seq (omega arith) in
        let a = ap (λ l. visits_made l k) all-of in
        let b = ap (λ l. visits_made l k) whole in
        let c = visits-append k front (Leave (length left-row.0) ∷ []) in
        let d : visits_made (Leave (length left-row.0) ∷ []) k ≡ 0 = refl in
        let above : length row ≤ visits_made front k = elim (cases_lt (visits_made front k) (length row)) [
          | inr g ↦ g
          | inl l ↦ absurd (done.2 (last, k, suc (visits_made front k), get_or row (visits_made front k) (record { inherited = []; synthesized = [] }), (pos, refl, (s, row, at, e, slice_get-get_or row (visits_made front k) (record { inherited = []; synthesized = [] }) l))))
        ] in
        omega (arith, below, a, b, c, d, above)
    end-allowed (suc (suc (suc zero))) = tt
    end-allowed (suc (suc (suc (suc zero)))) = tt
    end-allowed (suc (suc (suc (suc (suc zero))))) = made.ended
    end-allowed (suc (suc (suc (suc (suc (suc n)))))) = tt

    -- a constructed sequence is sound
    pub constructed-sound : IsSoundSequence symbols visits r seq
    constructed-sound place clause h = go (slice_get_cases seq place).1
      where
        go : ((x : PlanItem) × (place < length seq) × (slice_get seq place ≡ Some x) × (get_or seq place x ≡ x)) ⊎ ((length seq ≤ place) × (slice_get seq place ≡ None)) → AllowsNext symbols visits r clause (take place seq) (slice_get seq place)
        go (inl (x, i, e, f)) = subst (λ o. AllowsNext symbols visits r clause (take place seq) o) (sym e) (chosen-allowed (take place seq) x (made.chosen place x e) (within place x e) clause)
        go (inr (i, e)) =
            let all-of : take place seq ≡ seq = take_all place seq i in
            subst (λ o. AllowsNext symbols visits r clause (take place seq) o) (sym e) (subst (λ l. AllowsEnd symbols visits r clause l) (sym all-of) (end-allowed clause))
