-- What the tests of the progress say of the construction's choice.
use Rattle.std.specs.Prelude.{All, Contains, slice_get, slice_index, map, IsSome, IsBitSet, ◌↔◌, MatchOption, take, IsTrue, IfOk}
use Rattle.std.proofs.Common.{◌≡◌, ℕ, zero, suc, ◌<◌, ◌≤◌, ◌⊎◌, inl, inr, List, [], ◌∷◌, ◌++◌, length, get_or, Option, Some, Result, Ok, Err, refl, arith, ap, sym, subst, ◌∙◌}
use Rattle.std.proofs.lemmas.Bool.{cases_lt, cases_eq}
use Rattle.std.proofs.lemmas.Option.{slice_get_within, slice_get_past, slice_get-get_or}
use Rattle.std.proofs.lemmas.List.{get_or_past}
use Rattle.std.proofs.lemmas.List.Elements.{All-contains, All-weaker}
use Rattle.lido_base.specs.declared.ids.SymId.{SymId}
use Rattle.lido_base.specs.declared.ids.AttrId.{AttrId}
use Rattle.flat_grammar.specs.declared.flat.Occ.{Occ}
use Rattle.flat_grammar.specs.declared.flat.FlatSymbol.{FlatSymbol}
use Rattle.flat_grammar.specs.declared.flat.FlatRule.{FlatRule}
use Rattle.flat_grammar.specs.declared.flat.Shape.{Shape}
use Rattle.flat_grammar.specs.declared.plan.Label.{Label}
use Rattle.flat_grammar.specs.declared.plan.Label.TheVariants.{Direct, Induced, Partition}
use Rattle.flat_grammar.specs.declared.plan.VisitClass.{VisitClass}
use Rattle.flat_grammar.specs.declared.plan.PlanItem.{PlanItem}
use Rattle.flat_grammar.specs.declared.plan.PlanItem.TheVariants.{Eval, Visit, Leave}
use Rattle.flat_grammar.specs.Rules.{symbol_at, symbols_of}
use Rattle.flat_grammar.specs.WellFormed.{IsWellFormed}
use Rattle.flat_grammar.specs.Dependencies.{DP, IDS}
use Rattle.flat_grammar.specs.Cycles.{EDP, direct, induced, partition, IsAtMost}
use Rattle.flat_grammar.specs.Partition.{IsEarlier, AreAllVisits}
use Rattle.flat_grammar.specs.SoundPlan.{goals_of, segment_after, visits_made, IsEvaluated, IsEvaluatedAll, IsClassAt, IsAtHand}
use Rattle.flat_grammar.specs.Construction.{IsReady, IsNext, IsReadyVisit, IsLastSegment, IsOwing, HasReady, HasReadyVisit, HasNext, IsChosen, evaluation, ready_visit, next_visit, leave}
use Rattle.flat_grammar.proofs.Lists.{held, contains-nil, contains-cons, contains-first, contains-later}
use Rattle.visit_sequences.specs.declared.goals.Goal.{Goal}
use Rattle.visit_sequences.specs.declared.listed.Listed.{Listed}
use Rattle.visit_sequences.specs.declared.progress.Progress.{Progress}
use Rattle.visit_sequences.specs.declared.rest.Rest.{Rest}
use Rattle.visit_sequences.specs.Steps.{visits_there, IsBefore, IsGoal, AreGoals, HasBit, Follows, IsOpen, HasAll, IsListed, IsOfUseFrom, IsReadyAt, IsNextAt, AreListedChildren, AreOver, IsRest, IsSameBut, Owes, IsLeastChild, IsNoChild}
use Rattle.visit_sequences.proofs.Classes.{row-there}
use Rattle.visit_sequences.proofs.Occurrences.{rule-is}
use Rattle.visit_sequences.proofs.StepLemmas.{row-class, class-row}
use Rattle.visit_sequences.proofs.Soundness.{visits-append}

-- a goal of the list, and the list's entry of a goal
goal-entry : (goals : List Goal) (o : Occ) → Contains (map (λ (g : Goal). g.goal) goals) o → (g : Goal) × Contains goals g × (g.goal ≡ o)
goal-entry [] o m = absurd (contains-nil o m)
goal-entry (g ∷ goals) o m = elim (contains-cons g.goal o (map (λ (x : Goal). x.goal) goals) m) [
  | inl e ↦ (g, contains-first g goals, e)
  | inr n ↦ (let p = goal-entry goals o n in (p.0, contains-later g p.0 goals p.1, p.2))
]

entry-goal : (goals : List Goal) (g : Goal) → Contains goals g → Contains (map (λ (x : Goal). x.goal) goals) g.goal
entry-goal [] g m = absurd (contains-nil g m)
entry-goal (x ∷ goals) g m = elim (contains-cons x g goals m) [
  | inl e ↦ subst (λ (y : Goal). Contains (x.goal ∷ map (λ (z : Goal). z.goal) goals) y.goal) e (contains-first x.goal (map (λ (z : Goal). z.goal) goals))
  | inr n ↦ contains-later x.goal g.goal (map (λ (z : Goal). z.goal) goals) (entry-goal goals g n)
]

module _ (symbols : List FlatSymbol) (rules : List FlatRule) (visits : List (List VisitClass)) (r : FlatRule) (goals : List Goal) (are : AreGoals symbols rules r goals) (p : Progress) (follows : Follows visits r p) where
  abbrev Before : List PlanItem
  Before = p.items.items

  goal-among : (g : Goal) → Contains goals g → Contains (goals_of r) g.goal
  goal-among g m = subst (λ l. Contains l g.goal) are.all (entry-goal goals g m)

  entry-of : (o : Occ) → Contains (goals_of r) o → (g : Goal) × Contains goals g × (g.goal ≡ o)
  entry-of o m = goal-entry goals o (subst (λ l. Contains l o) (sym are.all) m)

  goal-is : (g : Goal) → Contains goals g → IsGoal symbols rules r g
  goal-is g m = All-contains (IsGoal symbols rules r) goals g are.each m

  -- what comes before has an edge
  before-edge : (o : Occ) (a : AttrId) → IsBefore symbols rules r o a → ((label : Label) → EDP symbols rules r (record { occ = o.occ; attr = a }) o label → ⊥) → ⊥
  before-edge o a (x, at, either) none = go either
    where
      u : Occ
      u = record { occ = o.occ; attr = a }

      not_direct : DP r (record { occ = o.occ; attr = a }) o → ⊥
      not_direct d = none Direct (direct d)

      go : IDS rules x a o.attr ⊎ IsEarlier symbols rules x a o.attr → ⊥
      go (inl i) = none Induced (induced not_direct refl at i)
      go (inr e) = none Partition (partition not_direct refl at (λ i. none Induced (induced not_direct refl at i)) e)

  open-ready : (g : Goal) → Contains goals g → IsOpen p g → IsReady symbols rules visits r Before g.goal
  open-ready g m (left, same, needs) = ((goal-among g m, (λ e. left ((follows.evaluated g.goal).1 e))), at_hand)
    where
      own : (u : Occ) (x : SymId) → u.occ ≡ g.goal.occ → symbol_at r u.occ ≡ Some x → (IDS rules x u.attr g.goal.attr ⊎ IsEarlier symbols rules x u.attr g.goal.attr) → IsAtHand visits r Before u
      own u x e at either =
          let bit = ((goal-is g m).same u.attr).1 (x, (ap (λ k. symbol_at r k) (sym e) ∙ at), either) in
          (follows.at_hand u).0 (subst (λ k. HasBit p.at_hand.items (record { occ = k; attr = u.attr })) (sym e) (same u.attr bit))

      at_hand : (u : Occ) (label : Label) → EDP symbols rules r u g.goal label → IsAtHand visits r Before u
      at_hand u label (direct d) = (follows.at_hand u).0 (needs u (((goal-is g m).direct u).1 d))
      at_hand u label (induced {x = x} n e at i) = own u x e at (inl i)
      at_hand u label (partition {x = x} n e at i f) = own u x e at (inr f)

  ready-open : (g : Goal) → Contains goals g → IsReady symbols rules visits r Before g.goal → IsOpen p g
  ready-open g m (left, at_hand) = (
    (λ bit. left.1 ((follows.evaluated g.goal).0 bit)),
    (λ a bit none. before-edge g.goal a (((goal-is g m).same a).0 bit) (λ label e. (follows.at_hand (record { occ = g.goal.occ; attr = a })).1 (at_hand (record { occ = g.goal.occ; attr = a }) label e) none)),
    (λ u n. (follows.at_hand u).1 (at_hand u Direct (direct (((goal-is g m).direct u).0 n)))),
  )

  pub quiet-is : All (λ g. IsOpen p g → ⊥) goals → HasReady symbols rules visits r Before → ⊥
  quiet-is none (o, ready) =
      let e = entry-of o ready.0.0 in
      All-contains (λ g. IsOpen p g → ⊥) goals e.0 none e.1 (ready-open e.0 e.1 (subst (λ q. IsReady symbols rules visits r Before q) (sym e.2) ready))

  -- the evaluation that is found is the one chosen
  pub chosen-evaluation : (o : Occ) → ((g : Goal) × Contains goals g × IsOpen p g × (g.goal ≡ o)) × All (λ g. IsOpen p g → IsAtMost o g.goal) goals → IsChosen symbols rules visits r Before (Eval o)
  chosen-evaluation o ((g, m, opens, e), least) = evaluation (subst (λ q. IsReady symbols rules visits r Before q) e (open-ready g m opens))
      (λ q ready. let f = entry-of q ready.0.0 in
      subst (λ z. IsAtMost o z) f.2 (All-contains (λ g. IsOpen p g → IsAtMost o g.goal) goals f.0 least f.1 (ready-open f.0 f.1 (subst (λ z. IsReady symbols rules visits r Before z) (sym f.2) ready))))

  has-all : (k : ℕ) (attrs : List AttrId) → HasAll p k attrs → IsEvaluatedAll Before k attrs
  has-all k attrs h = All-weaker (λ (a : AttrId). HasBit p.evaluated.items (record { occ = k; attr = a })) (λ (a : AttrId). IsEvaluated Before (record { occ = k; attr = a })) (λ a bit. (follows.evaluated (record { occ = k; attr = a })).0 bit) attrs h

  all-has : (k : ℕ) (attrs : List AttrId) → IsEvaluatedAll Before k attrs → HasAll p k attrs
  all-has k attrs h = All-weaker (λ (a : AttrId). IsEvaluated Before (record { occ = k; attr = a })) (λ (a : AttrId). HasBit p.evaluated.items (record { occ = k; attr = a })) (λ a e. (follows.evaluated (record { occ = k; attr = a })).1 e) attrs h

  abbrev made : ℕ → ℕ
  made k = slice_index p.made.items k

  inside : (k v : ℕ) (c : VisitClass) → IsClassAt visits r k v c → k < length (symbols_of r)
  inside k zero c h = absurd h
  inside k (suc v) c (s, row, at, e, f) = slice_get_within (symbols_of r) k s at

  child-inside : (k : ℕ) → k ≤ length r.right → k < length (symbols_of r)
  child-inside k h = omega (arith, h)

  next-of : (k : ℕ) (c : VisitClass) → 0 < k → k < length (symbols_of r) → slice_get (visits_there visits r k) (made k) ≡ Some c → IsNext symbols rules visits r Before k (suc (made k)) c
  next-of k c pos h e = (pos, ap suc (follows.made k h), row-class visits r k (made k) c e)

  of-next : (k v : ℕ) (c : VisitClass) → IsNext symbols rules visits r Before k v c → (v ≡ suc (made k)) × (slice_get (visits_there visits r k) (made k) ≡ Some c)
  of-next k v c (pos, e, at) =
      let h = inside k v c at in
      let same : v ≡ suc (made k) = e ∙ ap suc (sym (follows.made k h)) in
      (same, class-row visits r k (made k) c (subst (λ n. IsClassAt visits r k n c) same at))

  ready-visit : (k : ℕ) → 0 < k → k < length (symbols_of r) → IsReadyAt visits r p k → IsReadyVisit symbols rules visits r Before k (suc (made k))
  ready-visit k pos h (c, e, done, (w, d, l, f, n)) = (c, next-of k c pos h e, has-all k c.inherited done, (suc w, d, (omega (arith, l)), row-class visits r k w d f, n))

  visit-ready : (k v : ℕ) → IsReadyVisit symbols rules visits r Before k v → (0 < k) × IsReadyAt visits r p k
  visit-ready k v (c, next, done, (zero, d, l, at, n)) = absurd at
  visit-ready k v (c, next, done, (suc w, d, l, at, n)) =
      let o = of-next k v c next in let e = o.0 in
      (next.0, (c, o.1, all-has k c.inherited done, (w, d, (omega (arith, l, e)), class-row visits r k w d at, n)))

  next-at : (k : ℕ) → 0 < k → k < length (symbols_of r) → IsNextAt visits r p k → (c : VisitClass) × IsNext symbols rules visits r Before k (suc (made k)) c
  next-at k pos h l =
      let empty : VisitClass = record { inherited = []; synthesized = [] } in
      (get_or (visits_there visits r k) (made k) empty, next-of k (get_or (visits_there visits r k) (made k) empty) pos h (slice_get-get_or (visits_there visits r k) (made k) empty l))

  at-next : (k v : ℕ) (c : VisitClass) → IsNext symbols rules visits r Before k v c → (0 < k) × IsNextAt visits r p k
  at-next k v c next = let o = of-next k v c next in (next.0, slice_get_within (visits_there visits r k) (made k) c o.1)

  child-of : (k v : ℕ) (c : VisitClass) → IsNext symbols rules visits r Before k v c → k ≤ length r.right
  child-of k v c next = let h = inside k v c next.2 in omega (arith, h)

  module _ (shapes : List Shape) (root : SymId) (w : IsWellFormed symbols rules shapes root) (all : AreAllVisits symbols rules visits) (among : Contains rules r) where
    left-row : (row : List VisitClass) × (slice_get visits r.left.0 ≡ Some row) × (visits_there visits r 0 ≡ row)
    left-row =
        let p = row-there symbols rules visits all r.left (rule-is symbols rules shapes root w r among).left_side in
        (p.0, p.1, ap (λ (o : Option (List VisitClass)). Rattle.std.specs.Prelude.unwrap_or o []) p.1)

    last-is : p.segment ≡ length (visits_there visits r 0) → IsLastSegment symbols rules visits r Before
    last-is e = (left-row.0, left-row.1, sym follows.segment ∙ (e ∙ ap (λ l. length l) left-row.2))

    is-last : IsLastSegment symbols rules visits r Before → p.segment ≡ length (visits_there visits r 0)
    is-last (row, e, f) = follows.segment ∙ (f ∙ (ap (λ (l : List VisitClass). length l) (held (sym e ∙ left-row.1)) ∙ sym (ap (λ l. length l) left-row.2)))

    owes-owing : Owes visits r p goals → IsOwing symbols rules visits r Before
    owes-owing (inl (v, c, e, at, n)) = inl (c, subst (λ k. IsClassAt visits r 0 k c) (sym e ∙ follows.segment) (row-class visits r 0 v c at), (λ d. n (all-has 0 c.synthesized d)))
    owes-owing (inr (e, (g, m, n))) = inr (last-is e, g.goal, (goal-among g m, (λ d. n ((follows.evaluated g.goal).1 d))))

    owing-owes : IsOwing symbols rules visits r Before → Owes visits r p goals
    owing-owes (inl (c, at, n)) = go (segment_after Before) refl at
      where
        go : (s : ℕ) → segment_after Before ≡ s → IsClassAt visits r 0 s c → Owes visits r p goals
        go zero e h = absurd h
        go (suc v) e h = inl (v, c, (follows.segment ∙ e), class-row visits r 0 v c h, (λ d. n (has-all 0 c.synthesized d)))
    owing-owes (inr (last, o, left)) =
        let e = entry-of o left.0 in inr (is-last last, (e.0, e.1, (λ bit. left.1 (subst (λ q. IsEvaluated Before q) e.2 ((follows.evaluated e.0.goal).0 bit)))))

    -- no visit is ready where nothing is owed, or no child's is
    pub no-ready_visit : (Owes visits r p goals → IsNoChild r (IsReadyAt visits r p)) → HasReadyVisit symbols rules visits r Before → ⊥
    no-ready_visit none (owing, k, v, ready) =
        let h = visit-ready k v ready in none (owing-owes owing) k h.0 (child-of k v ready.0 ready.1) h.1

    pub no-next : (p.segment ≡ length (visits_there visits r 0) → IsNoChild r (IsNextAt visits r p)) → HasNext symbols rules visits r Before → ⊥
    no-next none (last, k, v, c, next) = let h = at-next k v c next in none (is-last last) k h.0 (child-of k v c next) h.1

    -- the visit that is found is the one chosen
    pub chosen-ready : (k : ℕ) (item : PlanItem) → All (λ g. IsOpen p g → ⊥) goals → Owes visits r p goals × IsLeastChild r (IsReadyAt visits r p) k → item ≡ Visit k (suc (slice_index p.made.items k)) → IsChosen symbols rules visits r Before item
    chosen-ready k item none (owes, (pos, h, ready, least)) e = subst (λ i. IsChosen symbols rules visits r Before i) (sym e)
        (ready_visit (quiet-is none) (owes-owing owes) (ready-visit k pos (child-inside k h) ready) (λ j v other. let o = visit-ready j v other in least j o.0 o.1))

    pub chosen-next : (k : ℕ) (item : PlanItem) → All (λ g. IsOpen p g → ⊥) goals → (Owes visits r p goals → IsNoChild r (IsReadyAt visits r p))
        → (p.segment ≡ length (visits_there visits r 0)) × IsLeastChild r (IsNextAt visits r p) k → item ≡ Visit k (suc (slice_index p.made.items k)) → IsChosen symbols rules visits r Before item
    chosen-next k item none idle (last, (pos, h, has, least)) e =
        let next = next-at k pos (child-inside k h) has in
        subst (λ i. IsChosen symbols rules visits r Before i) (sym e)
        (next_visit next.0 (quiet-is none) (no-ready_visit idle) (last-is last) next.1 (λ j v c other. let o = at-next j v c other in least j o.0 o.1))

    pub chosen-leave : (n : ℕ) → n ≡ p.segment → All (λ g. IsOpen p g → ⊥) goals → (Owes visits r p goals → IsNoChild r (IsReadyAt visits r p)) → (p.segment ≡ length (visits_there visits r 0) → IsNoChild r (IsNextAt visits r p))
        → IsChosen symbols rules visits r Before (Leave n)
    chosen-leave n e none idle over = subst (λ k. IsChosen symbols rules visits r Before (Leave k)) (sym (e ∙ follows.segment)) (leave (quiet-is none) (no-ready_visit idle) (no-next over))

-- a child whose next visit is ready is one
pub ready-child : (visits : List (List VisitClass)) (r : FlatRule) (p : Progress) (k : ℕ) → 0 < k → IsReadyAt visits r p k → k ≤ length r.right
ready-child visits r p k pos ready = elim (cases_lt k (length (symbols_of r))) [
  | inl inside ↦ omega (arith, inside)
  | inr past ↦ absurd (let l = slice_get_within (visits_there visits r k) (slice_index p.made.items k) ready.0 ready.1 in let e : length (visits_there visits r k) ≡ 0 = ap (λ (s : Option SymId). length (Rattle.std.specs.Prelude.unwrap_or (Rattle.std.specs.Prelude.option_and_then (λ (x : SymId). slice_get visits x.0) s) [])) (slice_get_past (symbols_of r) k past) in omega (arith, l, e))
]

-- the least that is listed is the least child that is ready, if it is ready
pub listed-least : (visits : List (List VisitClass)) (r : FlatRule) (p : Progress) (listed : Listed) (k : ℕ) → AreListedChildren visits r p listed → ((j : ℕ) → IsListed listed j → k ≤ j) → 0 < k → IsReadyAt visits r p k → IsLeastChild r (IsReadyAt visits r p) k
listed-least visits r p listed k are least pos ready = (pos, ready-child visits r p k pos ready, ready, (λ j above other. least j (are j above other)))

-- a child that has no visit left has none behind one more item
pub over-stays : (visits : List (List VisitClass)) (r : FlatRule) (old new : Progress) (item : PlanItem) → Follows visits r old → Follows visits r new → new.items.items ≡ old.items.items ++ item ∷ [] → (n : ℕ) → AreOver visits r old n → AreOver visits r new n
over-stays visits r old new item before after items n over k pos within left = elim (cases_lt k (length (symbols_of r))) [
  | inl inside ↦ (let a = before.made k inside in
      let b = after.made k inside in
      let c = ap (λ l. visits_made l k) items ∙ visits-append k old.items.items (item ∷ []) in
      over k pos within (omega arith))
  | inr past ↦ (let a = get_or_past old.made.items k 0 (let e = before.each_made in omega arith) in
      let b = get_or_past new.made.items k 0 (let e = after.each_made in omega arith) in
      over k pos within (omega arith))
]

-- only at the place of the item has a child become ready
pub ready-stays : (visits : List (List VisitClass)) (r : FlatRule) (old new : Progress) (k : ℕ) → IsSameBut old new k → (j : ℕ) → (j ≡ k → ⊥) → IsReadyAt visits r new j → IsReadyAt visits r old j
ready-stays visits r old new k changes j other (c, at, all, useful) =
    let same : slice_index new.made.items j ≡ slice_index old.made.items j = changes.made j other in (
      c,
      subst (λ n. slice_get (visits_there visits r j) n ≡ Some c) same at,
      All-weaker (λ (a : AttrId). HasBit new.evaluated.items (record { occ = j; attr = a })) (λ (a : AttrId). HasBit old.evaluated.items (record { occ = j; attr = a }))
          (λ a bit. elim (changes.evaluated (record { occ = j; attr = a }) bit) [ inl b ↦ b | inr e ↦ absurd (other e) ]) c.inherited all,
      subst (λ n. IsOfUseFrom (visits_there visits r j) n) same useful,
    )

pub listed-stay : (visits : List (List VisitClass)) (r : FlatRule) (old new : Progress) (k : ℕ) (before after : Listed) → IsSameBut old new k → ((j : ℕ) → IsListed before j ⊎ (j ≡ k) → IsListed after j) → AreListedChildren visits r old before → AreListedChildren visits r new after
listed-stay visits r old new k before after changes more are j pos ready = elim (cases_eq j k) [
  | inl e ↦ more j (inr e)
  | inr n ↦ more j (inl (are j pos (ready-stays visits r old new k changes j n ready)))
]

-- what is left stays so behind one more item, where its place is listed
pub rest-stays : (visits : List (List VisitClass)) (r : FlatRule) (goals : List Goal) (old new : Progress) (item : PlanItem) (k : ℕ) (before after : Rest) → Follows visits r old → Follows visits r new → new.items.items ≡ old.items.items ++ item ∷ [] → ((u : Occ) → HasBit old.evaluated.items u → HasBit new.evaluated.items u) → IsSameBut old new k
    → after.goals ≡ before.goals → after.children ≡ before.children → ((j : ℕ) → IsListed before.ready j ⊎ (j ≡ k) → IsListed after.ready j) → IsRest visits r old goals before → IsRest visits r new goals after
rest-stays visits r goals old new item k before after follows next items grows same same_goals same_children listed rest = record {
  evaluated = λ g m. grows g.goal (rest.evaluated g (subst (λ n. Contains (take n goals) g) same_goals m));
  over = over-stays visits r old new item follows next items after.children (subst (λ n. AreOver visits r old n) (sym same_children) rest.over);
  ready = listed-stay visits r old new k before.ready after.ready same listed rest.ready;
}

-- the list is empty where its length is not above 0
pub empty-list : {X : Type 0} (xs : List X) → length xs ≤ 0 → xs ≡ []
empty-list [] h = refl
empty-list (x ∷ xs) h = absurd (omega (arith, h))

pub some-list : {X : Type 0} (xs : List X) → 0 < length xs → xs ≡ [] → ⊥
some-list xs h e = let l = ap (λ ys. length ys) e in omega (arith, h, l)

pub if_ok-then : {T E : Type 0} (r : Result T E) (P Q : T → Type 0) → ((x : T) → P x → Q x) → IfOk r P → IfOk r Q
if_ok-then (Ok x) P Q f h = f x h
if_ok-then (Err e) P Q f h = h
