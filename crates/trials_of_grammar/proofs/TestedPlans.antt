-- Tests that a visit sequence meets all clauses of a sound plan.
use Rattle.std.specs.Prelude.{Contains, slice_get, nat_eq, nat_lt, Bool, true, false, IsTrue, ◌&&◌, ◌||◌, not, is_some, take}
use Rattle.std.specs.List.{list_all, list_any}
use Rattle.std.proofs.Common.{◌≡◌, ℕ, zero, suc, ◌<◌, ◌≤◌, ◌⊎◌, inl, inr, List, [], ◌∷◌, map, length, Option, Some, None, refl, arith, ap, sym, subst, ◌∙◌, eqb-true, ltb-true}
use Rattle.std.proofs.lemmas.Bool.{cases_lt}
use Rattle.std.proofs.lemmas.List.{take_all}
use Rattle.std.proofs.lemmas.List.Elements.{All-contains}
use Rattle.std.proofs.lemmas.Option.{slice_get_past, none-some}
use Rattle.lido_base.specs.declared.ids.SymId.{SymId}
use Rattle.lido_base.specs.declared.ids.AttrId.{AttrId}
use Rattle.flat_grammar.specs.declared.flat.Occ.{Occ}
use Rattle.flat_grammar.specs.declared.flat.FlatSymbol.{FlatSymbol}
use Rattle.flat_grammar.specs.declared.flat.FlatRule.{FlatRule}
use Rattle.flat_grammar.specs.declared.flat.FlatComp.{FlatComp}
use Rattle.flat_grammar.specs.declared.plan.PlanItem.{PlanItem}
use Rattle.flat_grammar.specs.declared.plan.PlanItem.TheVariants.{Eval, Visit, Leave}
use Rattle.flat_grammar.specs.declared.plan.VisitClass.{VisitClass}
use Rattle.flat_grammar.specs.Rules.{symbol_at, dependencies}
use Rattle.flat_grammar.specs.WellFormed.{is_same_occ, attribute_of}
use Rattle.flat_grammar.specs.SoundPlan.{IsEvaluated, IsEvaluatedAll, IsClassAt, IsAtHand, segment_after, visits_made, Allows, AllowsEnd, AllowsNext, HoldsAt, IsSoundSequence}
use Rattle.flat_grammar.proofs.Lists.{contains-first, contains-later, contains-cons, contains-nil}
use Rattle.trials_of_grammar.proofs.Finite.{never, both, same-occurrence, occurrences-apart}
use Rattle.trials_of_grammar.proofs.TestedGrammars.{all-tested}
use Rattle.trials_of_grammar.proofs.TestedTrees.{below, below-at, implies}

pub implied : (a b : Bool) → IsTrue (implies a b) → a ≡ true → IsTrue b
implied true b h e = h
implied false b h e = never e

-- past its end a list has nothing
slice_get_past-none : {X : Type 0} (xs : List X) (k : ℕ) → slice_get xs k ≡ None → length xs ≤ k
slice_get_past-none [] k e = omega arith
slice_get_past-none (x ∷ xs) zero e = absurd (none-some _ (sym e))
slice_get_past-none (x ∷ xs) (suc k) e = let l = slice_get_past-none xs k e in omega (arith, l)

-- one of the two tests passes
either : (a b : Bool) → IsTrue (a || b) → IsTrue a ⊎ IsTrue b
either true b h = inl refl
either false b h = inr h

neither : (a b : Bool) → (a || b) ≡ false → (a ≡ false) × (b ≡ false)
neither true b h = never (sym h)
neither false b h = (refl, h)

refuted : (a : Bool) → IsTrue (not a) → a ≡ false
refuted true h = never h
refuted false h = refl

pub same-true : (a b : Occ) → a ≡ b → is_same_occ a b ≡ true
same-true a b e = go (is_same_occ a b) refl
  where
    go : (t : Bool) → is_same_occ a b ≡ t → is_same_occ a b ≡ true
    go true h = h
    go false h = absurd (occurrences-apart a b h e)

abbrev pub is_evaluation_of : Occ → PlanItem → Bool
is_evaluation_of o (Eval p) = is_same_occ p o
is_evaluation_of o _ = false

abbrev pub evaluated : List PlanItem → Occ → Bool
evaluated before o = list_any (is_evaluation_of o) before

evaluation-is : (o : Occ) (item : PlanItem) → IsTrue (is_evaluation_of o item) → item ≡ Eval o
evaluation-is o (Eval p) h = ap Eval (same-occurrence p o h)
evaluation-is o (Visit k v) h = never h
evaluation-is o (Leave v) h = never h

is-evaluation : (o : Occ) (item : PlanItem) → item ≡ Eval o → is_evaluation_of o item ≡ true
is-evaluation o item e = ap (is_evaluation_of o) e ∙ same-true o o refl

pub evaluated-holds : (before : List PlanItem) (o : Occ) → IsTrue (evaluated before o) → IsEvaluated before o
evaluated-holds [] o h = never h
evaluated-holds (item ∷ before) o h = go (either _ _ h) (evaluated-holds before o)
  where
    go : IsTrue (is_evaluation_of o item) ⊎ IsTrue (evaluated before o) → (IsTrue (evaluated before o) → IsEvaluated before o) → IsEvaluated (item ∷ before) o
    go (inl e) later = subst (λ i. Contains (i ∷ before) (Eval o)) (sym (evaluation-is o item e)) (contains-first (Eval o) before)
    go (inr m) later = contains-later item (Eval o) before (later m)

pub evaluated-not : (before : List PlanItem) (o : Occ) → evaluated before o ≡ false → ¬ IsEvaluated before o
evaluated-not [] o h m = contains-nil _ m
evaluated-not (item ∷ before) o h m = go (contains-cons item (Eval o) before m) (evaluated-not before o (neither _ _ h).1)
  where
    go : (item ≡ Eval o) ⊎ IsEvaluated before o → ¬ IsEvaluated before o → ⊥
    go (inl e) later = never (sym (neither _ _ h).0 ∙ is-evaluation o item e)
    go (inr k) later = later k

abbrev pub all_evaluated : List PlanItem → ℕ → List AttrId → Bool
all_evaluated before k attrs = list_all (λ (a : AttrId). evaluated before (record { occ = k; attr = a })) attrs

all-evaluated : (before : List PlanItem) (k : ℕ) (attrs : List AttrId) → IsTrue (all_evaluated before k attrs) → IsEvaluatedAll before k attrs
all-evaluated before k attrs h = λ i d l. evaluated-holds before _ (all-tested (λ (a : AttrId). evaluated before (record { occ = k; attr = a })) attrs h i d l)

abbrev is_goal_of : List FlatComp → Occ → Bool
is_goal_of comps o = list_any (λ (c : FlatComp). is_same_occ c.goal o) comps

is-goal : (comps : List FlatComp) (o : Occ) → IsTrue (is_goal_of comps o) → Contains (map (λ (c : FlatComp). c.goal) comps) o
is-goal [] o h = never h
is-goal (c ∷ comps) o h = go (either _ _ h) (is-goal comps o)
  where
    go : IsTrue (is_same_occ c.goal o) ⊎ IsTrue (is_goal_of comps o) → (IsTrue (is_goal_of comps o) → Contains (map (λ (d : FlatComp). d.goal) comps) o) → Contains (map (λ (d : FlatComp). d.goal) (c ∷ comps)) o
    go (inl e) later = subst (λ p. Contains (p ∷ map (λ (d : FlatComp). d.goal) comps) o) (sym (same-occurrence c.goal o e)) (contains-first o _)
    go (inr m) later = contains-later c.goal o _ (later m)

abbrev has_attribute : AttrId → List AttrId → Bool
has_attribute a attrs = list_any (λ (b : AttrId). nat_eq b.0 a.0) attrs

has-attribute : (a : AttrId) (attrs : List AttrId) → IsTrue (has_attribute a attrs) → Contains attrs a
has-attribute a [] h = never h
has-attribute a (b ∷ attrs) h = go (either _ _ h) (has-attribute a attrs)
  where
    go : IsTrue (nat_eq b.0 a.0) ⊎ IsTrue (has_attribute a attrs) → (IsTrue (has_attribute a attrs) → Contains attrs a) → Contains (b ∷ attrs) a
    go (inl e) later = let f : b.0 ≡ a.0 = eqb-true b.0 a.0 e in let same : b ≡ a = λ i. record { 0 = f i } in subst (λ c. Contains (c ∷ attrs) a) (sym same) (contains-first a attrs)
    go (inr m) later = contains-later b a attrs (later m)

module _ (visits : List (List VisitClass)) (r : FlatRule) where
  abbrev class_in : Option SymId → ℕ → Option VisitClass
  class_in None v = None
  class_in (Some s) v = elim (slice_get visits s.0) [ None ↦ None | Some row ↦ slice_get row v ]

  abbrev pub class_at : ℕ → ℕ → Option VisitClass
  class_at k zero = None
  class_at k (suc v) = class_in (symbol_at r k) v

  pub class-is : (k v : ℕ) (class : VisitClass) → IsClassAt visits r k v class → class_at k v ≡ Some class
  class-is k zero class h = absurd h
  class-is k (suc v) class (s, row, e, f, g) = ap (λ o. class_in o v) e ∙ (ap (λ o. elim o [ None ↦ None | Some x ↦ slice_get x v ]) f ∙ g)

  pub is-class : (k v : ℕ) (class : VisitClass) → class_at k v ≡ Some class → IsClassAt visits r k v class
  is-class k zero class h = absurd (none-some _ h)
  is-class k (suc v) class h = go (symbol_at r k) refl h
    where
      inner : (s : SymId) → symbol_at r k ≡ Some s → (o : Option (List VisitClass)) → slice_get visits s.0 ≡ o → elim o [ None ↦ None | Some x ↦ slice_get x v ] ≡ Some class → IsClassAt visits r k (suc v) class
      inner s e None f g = absurd (none-some _ g)
      inner s e (Some row) f g = (s, row, e, f, g)

      go : (o : Option SymId) → symbol_at r k ≡ o → class_in o v ≡ Some class → IsClassAt visits r k (suc v) class
      go None e g = absurd (none-some _ g)
      go (Some s) e g = inner s e (slice_get visits s.0) refl g

  abbrev in_class : (VisitClass → List AttrId) → AttrId → Option VisitClass → Bool
  in_class pick a None = false
  in_class pick a (Some class) = has_attribute a (pick class)

  -- a visit from 1 to n has the attribute
  abbrev is_given : (VisitClass → List AttrId) → AttrId → ℕ → ℕ → Bool
  is_given pick a k zero = false
  is_given pick a k (suc n) = in_class pick a (class_at k (suc n)) || is_given pick a k n

  abbrev Given : (VisitClass → List AttrId) → AttrId → ℕ → ℕ → Type 0
  Given pick a k n = (v : ℕ) × (class : VisitClass) × (v ≤ n) × IsClassAt visits r k v class × Contains (pick class) a

  is-given : (pick : VisitClass → List AttrId) (a : AttrId) (k n : ℕ) → IsTrue (is_given pick a k n) → Given pick a k n
  is-given pick a k zero h = never h
  is-given pick a k (suc n) h = go (either _ _ h) (is-given pick a k n)
    where
      here : (o : Option VisitClass) → class_at k (suc n) ≡ o → IsTrue (in_class pick a o) → Given pick a k (suc n)
      here None e t = never t
      here (Some class) e t = (suc n, class, omega arith, is-class k (suc n) class e, has-attribute a (pick class) t)

      go : IsTrue (in_class pick a (class_at k (suc n))) ⊎ IsTrue (is_given pick a k n) → (IsTrue (is_given pick a k n) → Given pick a k n) → Given pick a k (suc n)
      go (inl e) later = here (class_at k (suc n)) refl e
      go (inr m) later = let g = later m in (g.0, g.1, (let l = g.2 in omega (arith, l)), g.3, g.4)

  abbrev pub is_at_hand : List PlanItem → Occ → Bool
  is_at_hand before o = evaluated before o || ((nat_lt 0 o.occ && is_given (λ c. c.synthesized) o.attr o.occ (visits_made before o.occ)) || (nat_eq o.occ 0 && is_given (λ c. c.inherited) o.attr 0 (segment_after before)))

  pub is-at-hand : (before : List PlanItem) (o : Occ) → IsTrue (is_at_hand before o) → IsAtHand visits r before o
  is-at-hand before o h = go (either _ _ h)
    where
      other : IsTrue (nat_lt 0 o.occ && is_given (λ c. c.synthesized) o.attr o.occ (visits_made before o.occ)) ⊎ IsTrue (nat_eq o.occ 0 && is_given (λ c. c.inherited) o.attr 0 (segment_after before)) → IsAtHand visits r before o
      other (inl e) = let b = both _ _ e in let g = is-given (λ c. c.synthesized) o.attr o.occ (visits_made before o.occ) b.1 in inr (inl (ltb-true 0 o.occ b.0, g.0, g.1, g.2, g.3, g.4))
      other (inr e) = let b = both _ _ e in let g = is-given (λ c. c.inherited) o.attr 0 (segment_after before) b.1 in inr (inr (eqb-true o.occ 0 b.0, g.0, g.1, g.2, g.3, g.4))

      go : IsTrue (evaluated before o) ⊎ IsTrue ((nat_lt 0 o.occ && is_given (λ c. c.synthesized) o.attr o.occ (visits_made before o.occ)) || (nat_eq o.occ 0 && is_given (λ c. c.inherited) o.attr 0 (segment_after before))) → IsAtHand visits r before o
      go (inl e) = inl (evaluated-holds before o e)
      go (inr m) = other (either _ _ m)

module _ (symbols : List FlatSymbol) (visits : List (List VisitClass)) (r : FlatRule) where
  abbrev class_passes : (VisitClass → Bool) → Option VisitClass → Bool
  class_passes p None = true
  class_passes p (Some class) = p class

  passes : (p : VisitClass → Bool) (k v : ℕ) (class : VisitClass) → IsTrue (class_passes p (class_at visits r k v)) → IsClassAt visits r k v class → IsTrue (p class)
  passes p k v class h c = subst (λ o. IsTrue (class_passes p o)) (class-is visits r k v class c) h

  some-class : (k v : ℕ) → IsTrue (is_some (class_at visits r k v)) → (class : VisitClass) × IsClassAt visits r k v class
  some-class k v h = go (class_at visits r k v) refl h
    where
      go : (o : Option VisitClass) → class_at visits r k v ≡ o → IsTrue (is_some o) → (class : VisitClass) × IsClassAt visits r k v class
      go None e t = never t
      go (Some class) e t = (class, is-class visits r k v class e)

  abbrev depends_on_hand : List PlanItem → Occ → Bool
  depends_on_hand before o = list_all (λ (c : FlatComp). implies (is_same_occ c.goal o) (list_all (is_at_hand visits r before) (dependencies c))) r.comps

  abbrev pub item_test : List PlanItem → PlanItem → Bool
  item_test before (Eval o) = is_some (attribute_of symbols r o) && ((is_goal_of r.comps o && not (evaluated before o)) && depends_on_hand before o)
  item_test before (Visit k v) = (nat_lt 0 k && is_some (class_at visits r k v)) && (nat_eq v (suc (visits_made before k)) && class_passes (λ c. all_evaluated before k c.inherited) (class_at visits r k v))
  item_test before (Leave v) = is_some (class_at visits r 0 v) && (nat_eq v (segment_after before) && class_passes (λ c. all_evaluated before 0 c.synthesized) (class_at visits r 0 v))

  -- an item that passes meets each clause
  pub item-tested : (before : List PlanItem) (item : PlanItem) → IsTrue (item_test before item) → (clause : ℕ) → Allows symbols visits r clause before item
  item-tested before (Eval o) h zero = (both _ _ h).0
  item-tested before (Eval o) h (suc zero) = let b = both _ _ (both _ _ (both _ _ h).1).0 in (is-goal r.comps o b.0, evaluated-not before o (refuted _ b.1))
  item-tested before (Eval o) h (suc (suc zero)) = tt
  item-tested before (Eval o) h (suc (suc (suc zero))) = tt
  item-tested before (Eval o) h (suc (suc (suc (suc zero)))) = λ c m e k d l.
      let t = All-contains (λ (c : FlatComp). IsTrue (implies (is_same_occ c.goal o) (list_all (is_at_hand visits r before) (dependencies c)))) r.comps c
      (all-tested (λ (c : FlatComp). implies (is_same_occ c.goal o) (list_all (is_at_hand visits r before) (dependencies c))) r.comps (both _ _ (both _ _ h).1).1) m in
      is-at-hand visits r before _ (all-tested (is_at_hand visits r before) (dependencies c) (implied _ _ t (same-true c.goal o e)) k d l)
  item-tested before (Eval o) h (suc (suc (suc (suc (suc zero))))) = tt
  item-tested before (Eval o) h (suc (suc (suc (suc (suc (suc clause)))))) = tt
  item-tested before (Visit k v) h zero = let b = both _ _ (both _ _ h).0 in let s = some-class k v b.1 in (ltb-true 0 k b.0, s.0, s.1)
  item-tested before (Visit k v) h (suc zero) = tt
  item-tested before (Visit k v) h (suc (suc zero)) = eqb-true v _ (both _ _ (both _ _ h).1).0
  item-tested before (Visit k v) h (suc (suc (suc zero))) = λ class c. all-evaluated before k class.inherited (passes (λ x. all_evaluated before k x.inherited) k v class (both _ _ (both _ _ h).1).1 c)
  item-tested before (Visit k v) h (suc (suc (suc (suc zero)))) = tt
  item-tested before (Visit k v) h (suc (suc (suc (suc (suc zero))))) = tt
  item-tested before (Visit k v) h (suc (suc (suc (suc (suc (suc clause)))))) = tt
  item-tested before (Leave v) h zero = some-class 0 v (both _ _ h).0
  item-tested before (Leave v) h (suc zero) = tt
  item-tested before (Leave v) h (suc (suc zero)) = tt
  item-tested before (Leave v) h (suc (suc (suc zero))) = tt
  item-tested before (Leave v) h (suc (suc (suc (suc zero)))) = tt
  item-tested before (Leave v) h (suc (suc (suc (suc (suc zero))))) = let b = both _ _ (both _ _ h).1 in (eqb-true v _ b.0, λ class c. all-evaluated before 0 class.synthesized (passes (λ x. all_evaluated before 0 x.synthesized) 0 v class b.1 c))
  item-tested before (Leave v) h (suc (suc (suc (suc (suc (suc clause)))))) = tt

  abbrev pub items_test : List PlanItem → ℕ → Bool
  items_test seq place = elim (slice_get seq place) [ None ↦ true | Some item ↦ item_test (take place seq) item ]

  -- all clauses hold at each of the first so many places
  pub first-tested : (seq : List PlanItem) (n : ℕ) → n ≤ length seq → IsTrue (below n (items_test seq)) → (place clause : ℕ) → place < n → HoldsAt symbols visits r seq place clause
  first-tested seq n m h place clause l = go (slice_get seq place) refl (below-at n (items_test seq) h place l)
    where
      go : (o : Option PlanItem) → slice_get seq place ≡ o → IsTrue (elim o [ None ↦ true | Some item ↦ item_test (take place seq) item ]) → AllowsNext symbols visits r clause (take place seq) o
      go None e t = absurd (past-none (slice_get_past-none seq place e) l)
        where
          past-none : length seq ≤ place → place < n → ⊥
          past-none a b = omega (arith, a, b, m)
      go (Some item) e t = item-tested (take place seq) item t clause

  -- a sequence whose items pass, and that ends as each clause has it, is sound
  pub sequence-tested : (seq : List PlanItem) → IsTrue (below (length seq) (items_test seq)) → ((clause : ℕ) → AllowsEnd symbols visits r clause seq) → IsSoundSequence symbols visits r seq
  sequence-tested seq h ends place clause l = go (cases_lt place (length seq))
    where
      go : (place < length seq) ⊎ (length seq ≤ place) → HoldsAt symbols visits r seq place clause
      go (inl m) = first-tested seq (length seq) (omega arith) h place clause m
      go (inr m) = let e : length seq ≡ place = omega (arith, l, m) in
          subst (λ p. HoldsAt symbols visits r seq p clause) e
          (subst (λ o. AllowsNext symbols visits r clause (take (length seq) seq) o) (sym (slice_get_past seq (length seq) (omega arith)))
          (subst (λ b. AllowsEnd symbols visits r clause b) (sym (take_all (length seq) seq (omega arith))) (ends clause)))
