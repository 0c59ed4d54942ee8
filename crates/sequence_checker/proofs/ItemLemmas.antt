-- What the checker finds of an item is the first clause that it breaks.
use Rattle.std.specs.Prelude.{false, IsTrue, ◌↔◌, All, AllPairs, Contains, slice_get, slice_index, is_some, option_and_then}
use Rattle.std.specs.List.{list_all, slice_index_or}
use Rattle.std.proofs.Common.{◌≡◌, ℕ, zero, suc, ◌<◌, ◌≤◌, ◌⊎◌, inl, inr, List, [], ◌∷◌, length, Option, Some, None, refl, arith, ap, sym, subst, ◌∙◌}
use Rattle.std.proofs.lemmas.Bool.{cases_order}
use Rattle.std.proofs.lemmas.Option.{none-some, slice_get_within}
use Rattle.lido_base.specs.declared.ids.AttrId.{AttrId}
use Rattle.lido_base.specs.declared.ids.SymId.{SymId}
use Rattle.flat_grammar.specs.declared.flat.Occ.{Occ}
use Rattle.flat_grammar.specs.declared.flat.FlatSymbol.{FlatSymbol}
use Rattle.flat_grammar.specs.declared.flat.FlatRule.{FlatRule}
use Rattle.flat_grammar.specs.declared.flat.FlatComp.{FlatComp}
use Rattle.flat_grammar.specs.declared.plan.VisitClass.{VisitClass}
use Rattle.flat_grammar.specs.declared.plan.PlanItem.{PlanItem}
use Rattle.flat_grammar.specs.declared.plan.PlanItem.TheVariants.{Eval, Visit, Leave}
use Rattle.flat_grammar.specs.Rules.{symbols_of, symbol_at, dependencies}
use Rattle.flat_grammar.specs.WellFormed.{attribute_of}
use Rattle.flat_grammar.specs.SoundPlan.{visits_made, IsEvaluated, IsEvaluatedAll, IsClassAt, IsAtHand, goals_of, Allows}
use Rattle.flat_grammar.proofs.Lists.{contains-nil, held}
use Rattle.sequence_checker.specs.declared.progress.Progress.{Progress}
use Rattle.sequence_checker.specs.Sets.{has, has_each}
use Rattle.sequence_checker.specs.Classes.{class_of}
use Rattle.sequence_checker.specs.Steps.{ended, passed_up_to, passing, IsGiven, Follows, is_at_hand}
use Rattle.sequence_checker.specs.Faults.{IsFirstBroken, JudgesItem}
use Rattle.sequence_checker.proofs.Bools.{never, either, left, right, all-tested, tested-all}
use Rattle.sequence_checker.proofs.GoalLemmas.{computation-goal}

-- computations of one goal are one
pub one-computation : (cs : List FlatComp) (c d : FlatComp) → AllPairs (λ (x y : FlatComp). x.goal ≡ y.goal → ⊥) cs → Contains cs c → Contains cs d → c.goal ≡ d.goal → c ≡ d
one-computation cs c d apart (i, h, e) (j, k, f) same = go (cases_order i j)
  where
    at : (n : ℕ) (x y : FlatComp) → n < length cs → slice_index_or cs n x ≡ slice_index_or cs n y
    at n x y l = default cs n x y l
      where
        default : (xs : List FlatComp) (n : ℕ) (x y : FlatComp) → n < length xs → slice_index_or xs n x ≡ slice_index_or xs n y
        default [] n x y l = absurd (omega (arith, l))
        default (z ∷ xs) zero x y l = refl
        default (z ∷ xs) (suc n) x y l = default xs n x y (omega (arith, l))

    go : (i ≡ j) ⊎ ((i < j) ⊎ (j < i)) → c ≡ d
    go (inl s) = sym e ∙ (ap (λ n. slice_index_or cs n c) s ∙ (at j c d k ∙ f))
    go (inr (inl l)) = absurd (apart i j c l k (ap (λ (x : FlatComp). x.goal) e ∙ (same ∙ ap (λ (x : FlatComp). x.goal) (sym (at j c d k ∙ f)))))
    go (inr (inr l)) = absurd (apart j i d l h (ap (λ (x : FlatComp). x.goal) f ∙ (sym same ∙ ap (λ (x : FlatComp). x.goal) (sym (at i d c h ∙ e)))))

module _ (visits : List (List VisitClass)) (r : FlatRule) where
  pub class-is : (k v : ℕ) (class : VisitClass) → IsClassAt visits r k v class → class_of visits r k v ≡ Some class
  class-is k zero class h = absurd h
  class-is k (suc v) class (s, row, e, f, g) =
      ap (λ o. option_and_then (λ (row : List VisitClass). slice_get row v) (option_and_then (λ (s : SymId). slice_get visits s.0) o)) e
      ∙ (ap (λ o. option_and_then (λ (row : List VisitClass). slice_get row v) o) f ∙ g)

  pub class-at : (k v : ℕ) (class : VisitClass) → class_of visits r k v ≡ Some class → IsClassAt visits r k v class
  class-at k zero class h = none-some _ h
  class-at k (suc v) class h = by_symbol (symbol_at r k) refl h
    where
      by_row : (s : SymId) → symbol_at r k ≡ Some s → (row : Option (List VisitClass)) → slice_get visits s.0 ≡ row → option_and_then (λ (row : List VisitClass). slice_get row v) row ≡ Some class
          → IsClassAt visits r k (suc v) class
      by_row s e None f g = absurd (none-some _ g)
      by_row s e (Some row) f g = (s, row, e, f, g)

      by_symbol : (o : Option SymId) → symbol_at r k ≡ o → option_and_then (λ (row : List VisitClass). slice_get row v) (option_and_then (λ (s : SymId). slice_get visits s.0) o) ≡ Some class
          → IsClassAt visits r k (suc v) class
      by_symbol None e g = absurd (none-some _ g)
      by_symbol (Some s) e g = by_row s e (slice_get visits s.0) refl g

  no-class : (k v : ℕ) → class_of visits r k v ≡ None → (class : VisitClass) → IsClassAt visits r k v class → ⊥
  no-class k v none class h = none-some _ (sym none ∙ class-is k v class h)

  same-class : (k v : ℕ) (class other : VisitClass) → class_of visits r k v ≡ Some class → IsClassAt visits r k v other → other ≡ class
  same-class k v class other e h = held (sym (class-is k v other h) ∙ e)

  module _ (before : List PlanItem) (p : Progress) (follows : Follows visits r before p) where
    given-hand : (k a : ℕ) → IsGiven visits r before (record { occ = k; attr = record { 0 = a } }) → IsAtHand visits r before (record { occ = k; attr = record { 0 = a } })
    given-hand k a (v, l, m) = go k (class_of visits r k v) refl l m
      where
        go : (k : ℕ) (class : Option VisitClass) → class_of visits r k v ≡ class → v ≤ passed_up_to before k → Contains (passing k class) (record { 0 = a }) → IsAtHand visits r before (record { occ = k; attr = record { 0 = a } })
        go k None e l m = absurd (contains-nil _ m)
        go zero (Some class) e l m = inr (inr (refl, v, class, l, class-at zero v class e, m))
        go (suc k) (Some class) e l m = inr (inl ((omega arith), v, class, l, class-at (suc k) v class e, m))

    hand-given : (k a : ℕ) → IsAtHand visits r before (record { occ = k; attr = record { 0 = a } })
        → IsEvaluated before (record { occ = k; attr = record { 0 = a } }) ⊎ IsGiven visits r before (record { occ = k; attr = record { 0 = a } })
    hand-given k a (inl m) = inl m
    hand-given zero a (inr (inl h)) = absurd (let l = h.0 in omega (arith, l))
    hand-given (suc k) a (inr (inl (h, v, class, l, at, m))) = inr (v, l, subst (λ c. Contains (passing (suc k) c) (record { 0 = a })) (sym (class-is (suc k) v class at)) m)
    hand-given zero a (inr (inr (h, v, class, l, at, m))) = inr (v, l, subst (λ c. Contains (passing zero c) (record { 0 = a })) (sym (class-is zero v class at)) m)
    hand-given (suc k) a (inr (inr h)) = absurd (let e = h.0 in omega (arith, e))

    -- the checker knows what is at hand
    pub hand-is : (o : Occ) → IsTrue (is_at_hand p o) ↔ IsAtHand visits r before o
    hand-is o = (to, from)
      where
        to : IsTrue (is_at_hand p o) → IsAtHand visits r before o
        to h = elim (either (has p.evaluated o) (has p.given o) h) [ inl e ↦ inl ((follows.evaluated o).0 e) | inr g ↦ given-hand o.occ o.attr.0 ((follows.given o).0 g) ]

        from : IsAtHand visits r before o → IsTrue (is_at_hand p o)
        from h = elim (hand-given o.occ o.attr.0 h) [
          | inl e ↦ left (has p.evaluated o) (has p.given o) ((follows.evaluated o).1 e)
          | inr g ↦ right (has p.evaluated o) (has p.given o) ((follows.given o).1 g)
        ]

    all-hand : (os : List Occ) → IsTrue (list_all (is_at_hand p) os) → All (IsAtHand visits r before) os
    all-hand os h = λ k d l. (hand-is (slice_index_or os k d)).0 (all-tested (is_at_hand p) os h k d l)

    hand-all : (os : List Occ) → All (IsAtHand visits r before) os → IsTrue (list_all (is_at_hand p) os)
    hand-all os h = tested-all (is_at_hand p) os (λ k d l. (hand-is (slice_index_or os k d)).1 (h k d l))

    evaluated-all : (k : ℕ) (attrs : List AttrId) → IsTrue (has_each p.evaluated k attrs) → IsEvaluatedAll before k attrs
    evaluated-all k attrs h = λ i d l. (follows.evaluated (record { occ = k; attr = slice_index_or attrs i d })).0 (all-tested (λ a. has p.evaluated (record { occ = k; attr = a })) attrs h i d l)

    all-evaluated : (k : ℕ) (attrs : List AttrId) → IsEvaluatedAll before k attrs → IsTrue (has_each p.evaluated k attrs)
    all-evaluated k attrs h = tested-all (λ a. has p.evaluated (record { occ = k; attr = a })) attrs (λ i d l. (follows.evaluated (record { occ = k; attr = slice_index_or attrs i d })).1 (h i d l))

    module _ (symbols : List FlatSymbol) where
      -- an evaluation before what it depends on
      pub early-eval : (o : Occ) (comp : FlatComp) → IsTrue (is_some (attribute_of symbols r o)) → Contains r.comps comp → comp.goal ≡ o → has p.evaluated o ≡ false
          → list_all (is_at_hand p) (dependencies comp) ≡ false → IsFirstBroken (λ clause. Allows symbols visits r clause before (Eval o)) (Some 4)
      early-eval o comp range among goal unseen missing = ((λ allows. never (sym missing ∙ hand-all (dependencies comp) (allows comp among goal))), below)
        where
          below : (clause : ℕ) → clause < 4 → Allows symbols visits r clause before (Eval o)
          below zero h = range
          below (suc zero) h = (subst (Contains (goals_of r)) goal (computation-goal r.comps comp among), (λ m. never (sym unseen ∙ (follows.evaluated o).1 m)))
          below (suc (suc zero)) h = tt
          below (suc (suc (suc zero))) h = tt
          below (suc (suc (suc (suc n)))) h = absurd (omega (arith, h))

      -- an evaluation that is right
      pub right-eval : (o : Occ) (comp : FlatComp) → AllPairs (λ (c d : FlatComp). c.goal ≡ d.goal → ⊥) r.comps → IsTrue (is_some (attribute_of symbols r o)) → Contains r.comps comp → comp.goal ≡ o → has p.evaluated o ≡ false
          → IsTrue (list_all (is_at_hand p) (dependencies comp)) → (clause : ℕ) → Allows symbols visits r clause before (Eval o)
      right-eval o comp once range among goal unseen found zero = range
      right-eval o comp once range among goal unseen found (suc zero) = (subst (Contains (goals_of r)) goal (computation-goal r.comps comp among), (λ m. never (sym unseen ∙ (follows.evaluated o).1 m)))
      right-eval o comp once range among goal unseen found (suc (suc zero)) = tt
      right-eval o comp once range among goal unseen found (suc (suc (suc zero))) = tt
      right-eval o comp once range among goal unseen found (suc (suc (suc (suc zero)))) =
          λ c m e. subst (λ (x : FlatComp). All (IsAtHand visits r before) (dependencies x)) (one-computation r.comps comp c once among m (goal ∙ sym e)) (all-hand (dependencies comp) found)
      right-eval o comp once range among goal unseen found (suc (suc (suc (suc (suc zero))))) = tt
      right-eval o comp once range among goal unseen found (suc (suc (suc (suc (suc (suc n)))))) = tt

      within : (k v : ℕ) (class : VisitClass) → IsClassAt visits r k v class → k < length (symbols_of r)
      within k zero class none = absurd none
      within k (suc w) class (s, row, e, _, _) = slice_get_within (symbols_of r) k s e

      made-is : (k v : ℕ) (class : VisitClass) → class_of visits r k v ≡ Some class → slice_index p.made.items k ≡ ended before k
      made-is k v class e = follows.made k (within k v class (class-at k v class e))

      -- a visit of a child before what it inherits, and one that is right
      module _ (k v : ℕ) (class : VisitClass) (child : k ≡ 0 → ⊥) (there : class_of visits r k v ≡ Some class) (next : v ≡ suc (slice_index p.made.items k)) where
        next-visit : (j : ℕ) → k ≡ j → v ≡ suc (visits_made before j)
        next-visit zero e = absurd (child e)
        next-visit (suc j) e = next ∙ ap suc (made-is k v class there ∙ ap (ended before) e)

        pub early-visit : has_each p.evaluated k class.inherited ≡ false → IsFirstBroken (λ clause. Allows symbols visits r clause before (Visit k v)) (Some 3)
        early-visit missing = ((λ allows. never (sym missing ∙ all-evaluated k class.inherited (allows class (class-at k v class there)))), below)
          where
            below : (clause : ℕ) → clause < 3 → Allows symbols visits r clause before (Visit k v)
            below zero h = ((let c = child in omega arith), class, class-at k v class there)
            below (suc zero) h = tt
            below (suc (suc zero)) h = next-visit k refl
            below (suc (suc (suc n))) h = absurd (omega (arith, h))

        pub right-visit : IsTrue (has_each p.evaluated k class.inherited) → (clause : ℕ) → Allows symbols visits r clause before (Visit k v)
        right-visit found zero = ((let c = child in omega arith), class, class-at k v class there)
        right-visit found (suc zero) = tt
        right-visit found (suc (suc zero)) = next-visit k refl
        right-visit found (suc (suc (suc zero))) = λ other at. subst (λ (c : VisitClass). IsEvaluatedAll before k c.inherited) (sym (same-class k v class other there at)) (evaluated-all k class.inherited found)
        right-visit found (suc (suc (suc (suc zero)))) = tt
        right-visit found (suc (suc (suc (suc (suc zero))))) = tt
        right-visit found (suc (suc (suc (suc (suc (suc n)))))) = tt

      -- the end of a visit before what it owes, and one that is right
      module _ (v : ℕ) (class : VisitClass) (there : class_of visits r 0 v ≡ Some class) (next : v ≡ suc (slice_index p.made.items 0)) where
        pub early-leave : has_each p.evaluated 0 class.synthesized ≡ false → IsFirstBroken (λ clause. Allows symbols visits r clause before (Leave v)) (Some 5)
        early-leave missing = ((λ allows. never (sym missing ∙ all-evaluated 0 class.synthesized (allows.1 class (class-at 0 v class there)))), below)
          where
            below : (clause : ℕ) → clause < 5 → Allows symbols visits r clause before (Leave v)
            below zero h = (class, class-at 0 v class there)
            below (suc zero) h = tt
            below (suc (suc zero)) h = tt
            below (suc (suc (suc zero))) h = tt
            below (suc (suc (suc (suc zero)))) h = tt
            below (suc (suc (suc (suc (suc n))))) h = absurd (omega (arith, h))

        pub right-leave : IsTrue (has_each p.evaluated 0 class.synthesized) → (clause : ℕ) → Allows symbols visits r clause before (Leave v)
        right-leave found zero = (class, class-at 0 v class there)
        right-leave found (suc zero) = tt
        right-leave found (suc (suc zero)) = tt
        right-leave found (suc (suc (suc zero))) = tt
        right-leave found (suc (suc (suc (suc zero)))) = tt
        right-leave found (suc (suc (suc (suc (suc zero))))) =
            ((let m = made-is 0 v class there in omega arith), λ other at. subst (λ (c : VisitClass). IsEvaluatedAll before 0 c.synthesized) (sym (same-class 0 v class other there at)) (evaluated-all 0 class.synthesized found))
        right-leave found (suc (suc (suc (suc (suc (suc n)))))) = tt

-- what is judged of an item of a form is judged of the item
pub judges-same : (symbols : List FlatSymbol) (visits : List (List VisitClass)) (r : FlatRule) (p : Progress) (item form : PlanItem) (fault : Option ℕ) → item ≡ form → JudgesItem symbols visits r p form fault → JudgesItem symbols visits r p item fault
judges-same symbols visits r p item form fault e j = subst (λ i. JudgesItem symbols visits r p i fault) (sym e) j
