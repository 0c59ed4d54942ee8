-- What the checker keeps goes on from item to item.
use Rattle.std.specs.Prelude.{Bool, true, false, cond, ◌||◌, IsTrue, ◌↔◌, Contains, slice_index, slice_set, nat_eq, sum, count_by, replicate, ◌^◌}
use Rattle.std.specs.List.{list_any}
use Rattle.std.proofs.Common.{◌≡◌, ℕ, zero, suc, ◌+◌, ◌<◌, ◌≤◌, inl, inr, List, [], ◌∷◌, ◌++◌, length, None, refl, arith, ap, sym, subst, ◌∙◌, eqb-true, eq-eqb, Result, Ok, Err, OnOk}
use Rattle.std.proofs.lemmas.Bool.{cases_eq}
use Rattle.std.proofs.lemmas.Option.{slice_get_within}
use Rattle.std.proofs.lemmas.List.{length_push, get_or-set_same, get_or-set_other, length-set, get_or-replicate, length-replicate}
use Rattle.std.proofs.lemmas.List.Sums.{sum_by_push, sum_by-set}
use Rattle.std.proofs.lemmas.List.Folds.{sum_by-replicate}
use Rattle.std.proofs.lemmas.List.Elements.{Contains-push, Contains-push_cases, Contains-append_left, All-set, All-same, All-replicate}
use Rattle.lido_base.specs.declared.ids.AttrId.{AttrId}
use Rattle.flat_grammar.specs.declared.flat.Occ.{Occ}
use Rattle.flat_grammar.specs.declared.flat.FlatSymbol.{FlatSymbol}
use Rattle.flat_grammar.specs.declared.flat.FlatRule.{FlatRule}
use Rattle.flat_grammar.specs.declared.plan.VisitClass.{VisitClass}
use Rattle.flat_grammar.specs.declared.plan.PlanItem.{PlanItem}
use Rattle.flat_grammar.specs.declared.plan.PlanItem.TheVariants.{Eval, Visit, Leave}
use Rattle.flat_grammar.specs.Rules.{symbols_of}
use Rattle.flat_grammar.specs.declared.flat.FlatComp.{FlatComp}
use Rattle.flat_grammar.specs.WellFormed.{is_same_occ, IsRule}
use Rattle.flat_grammar.specs.SoundPlan.{is_leave, is_visit_of, IsEvaluated, IsClassAt, Allows}
use Rattle.flat_grammar.proofs.Lists.{contains-nil}
use Rattle.sequence_checker.specs.declared.set.Occurrences.{Occurrences}
use Rattle.sequence_checker.specs.declared.progress.Progress.{Progress}
use Rattle.sequence_checker.specs.Sets.{has, is_one_of}
use Rattle.sequence_checker.specs.Classes.{class_of}
use Rattle.sequence_checker.specs.Steps.{ended, passed_up_to, passing, IsGiven, Gave, Follows, GoesOn}
use Rattle.sequence_checker.proofs.CountLemmas.{count-none, count-more}
use Rattle.sequence_checker.proofs.Bools.{never, both, together, either, left, right, any-contains, contains-any, same-occurrence, occurrence-same}

-- by how much an item raises the number of visits that came to their end
abbrev pub raised : PlanItem → ℕ → ℕ
raised item zero = cond (is_leave item) 1 0
raised item (suc k) = cond (is_visit_of (suc k) item) 1 0

abbrev pub first : ℕ → ℕ
first zero = 1
first (suc k) = 0

pub ended-push : (before : List PlanItem) (item : PlanItem) (k : ℕ) → ended (before ++ item ∷ []) k ≡ ended before k + raised item k
ended-push before item zero = sum_by_push (λ x. cond (is_leave x) 1 0) before item
ended-push before item (suc k) = sum_by_push (λ x. cond (is_visit_of (suc k) x) 1 0) before item

pub passed-ended : (before : List PlanItem) (k : ℕ) → passed_up_to before k ≡ ended before k + first k
passed-ended before zero = omega arith
passed-ended before (suc k) = omega arith

raised-eval : (o : Occ) (k : ℕ) → raised (Eval o) k ≡ 0
raised-eval o zero = refl
raised-eval o (suc k) = refl

raised-leave : (v k : ℕ) → (k ≡ 0 → ⊥) → raised (Leave v) k ≡ 0
raised-leave v zero h = absurd (h refl)
raised-leave v (suc k) h = refl

raised-visit : (j v k : ℕ) → (k ≡ suc j → ⊥) → raised (Visit (suc j) v) k ≡ 0
raised-visit j v zero h = refl
raised-visit j v (suc k) h = go (nat_eq (suc j) (suc k)) refl
  where
    go : (b : Bool) → nat_eq (suc j) (suc k) ≡ b → ◌≡◌ {A = ℕ} (cond b 1 0) 0
    go true e = absurd (h (sym (eqb-true (suc j) (suc k) e)))
    go false e = refl

raised-visit_itself : (j v : ℕ) → raised (Visit (suc j) v) (suc j) ≡ 1
raised-visit_itself j v = ap (λ b. cond b 1 0) (eq-eqb (suc j) (suc j) refl)

module _ (visits : List (List VisitClass)) (r : FlatRule) where
  -- it passed in a visit up to a number for each occurrence
  abbrev pub IsGivenUpTo : (ℕ → ℕ) → Occ → Type 0
  IsGivenUpTo f o = (v : ℕ) × (v ≤ f o.occ) × Contains (passing o.occ (class_of visits r o.occ v)) o.attr

  -- one more visit at one occurrence
  pub given-more : (f g : ℕ → ℕ) (k v : ℕ) → v ≡ suc (f k) → g k ≡ v → ((j : ℕ) → (j ≡ k → ⊥) → g j ≡ f j) → (old new : Occurrences) → Gave visits r k v old new
      → ((o : Occ) → IsTrue (has old o) ↔ IsGivenUpTo f o) → (o : Occ) → IsTrue (has new o) ↔ IsGivenUpTo g o
  given-more f g k v e at others old new gave was o = (to, from)
    where
      attrs : List AttrId
      attrs = passing k (class_of visits r k v)

      wider : f o.occ ≤ g o.occ
      wider = elim (cases_eq o.occ k) [ inl s ↦ (let a = ap f s in let b = ap g s in omega arith) | inr n ↦ (let a = others o.occ n in omega arith) ]

      here : k ≡ o.occ → Contains attrs o.attr → IsGivenUpTo g o
      here s m = (v, (let a = ap g s in omega arith), subst (λ j. Contains (passing j (class_of visits r j v)) o.attr) s m)

      to : IsTrue (has new o) → IsGivenUpTo g o
      to h = elim (either (has old o) (is_one_of k attrs o) (sym (gave o) ∙ h)) [
        | inl p ↦ (let q = (was o).0 p in (q.0, (let a : q.0 ≤ f o.occ = q.1 in let w = wider in omega (arith, a, w)), q.2))
        | inr p ↦ (let b = both (nat_eq k o.occ) (list_any (λ (a : AttrId). nat_eq a.0 o.attr.0) attrs) p in here (eqb-true k o.occ b.0) (any-contains attrs o.attr b.1))
      ]

      old-one : (w : ℕ) → w ≤ f o.occ → Contains (passing o.occ (class_of visits r o.occ w)) o.attr → IsTrue (has new o)
      old-one w l m = gave o ∙ left (has old o) (is_one_of k attrs o) ((was o).1 (w, l, m))

      new-one : (w : ℕ) → o.occ ≡ k → w ≡ v → Contains (passing o.occ (class_of visits r o.occ w)) o.attr → IsTrue (has new o)
      new-one w s t m = gave o ∙ right (has old o) (is_one_of k attrs o)
          (together (nat_eq k o.occ) _ (eq-eqb k o.occ (sym s)) (contains-any attrs o.attr (subst (λ j. Contains (passing j (class_of visits r j v)) o.attr) s (subst (λ x. Contains (passing o.occ (class_of visits r o.occ x)) o.attr) t m))))

      from : IsGivenUpTo g o → IsTrue (has new o)
      from (w, l, m) = elim (cases_eq o.occ k) [
        | inl s ↦ elim (cases_eq w v) [
          | inl t ↦ new-one w s t m
          | inr n ↦ old-one w (let a = ap f s in let b = ap g s in omega arith) m
        ]
        | inr n ↦ old-one w (let a = others o.occ n in omega arith) m
      ]

  -- nothing passes up to visit 0
  pub given-none : (o : Occ) → IsGivenUpTo (λ k. 0) o → ⊥
  given-none o (zero, l, m) = nothing o.occ m
    where
      nothing : (k : ℕ) → Contains (passing k None) o.attr → ⊥
      nothing k n = contains-nil o.attr n
  given-none o (suc v, l, m) = absurd (omega (arith, l))

  -- before the first item
  pub follows-start : (p : Progress) (empty : Occurrences) → ((o : Occ) → has empty o ≡ false) → ((o : Occ) → has p.evaluated o ≡ false)
      → Gave visits r 0 1 empty p.given → p.made.items ≡ replicate (length r.right + 1) 0 → Follows visits r [] p
  follows-start p empty none unevaluated gave zeros = record {
    evaluated = λ o. (λ h. never (sym (unevaluated o) ∙ h), λ m. absurd (contains-nil (Eval o) m));
    given = given-more (λ k. 0) (passed_up_to []) 0 1 refl refl others empty p.given gave (λ o. (λ h. never (sym (none o) ∙ h), λ g. absurd (given-none o g)));
    each = ap length zeros ∙ (length-replicate (length r.right + 1) 0 ∙ omega arith);
    made = λ k l. ap (λ (m : List ℕ). slice_index m k) zeros ∙ (get_or-replicate (length r.right + 1) k 0 0 (omega arith) ∙ sym (nothing_ended k));
    small = All-same (λ n. n < 2 ^ 16) p.made.items (replicate (length r.right + 1) 0) zeros (All-replicate (λ n. n < 2 ^ 16) (length r.right + 1) 0 (omega arith));
    counted = let s = ap sum zeros in let z = sum_by-replicate (λ (x : ℕ). x) (length r.right + 1) 0 in let n = count-none (λ (c : FlatComp). has p.evaluated c.goal) (λ c. unevaluated c.goal) r.comps in omega (arith, s, z, n);
  }
    where
      others : (j : ℕ) → (j ≡ 0 → ⊥) → passed_up_to [] j ≡ 0
      others zero h = absurd (h refl)
      others (suc j) h = refl

      nothing_ended : (k : ℕ) → ended [] k ≡ 0
      nothing_ended zero = refl
      nothing_ended (suc k) = refl

  module _ (before : List PlanItem) (p q : Progress) (follows : Follows visits r before p) where
    evaluated-push : (item : PlanItem) → ((o : Occ) → item ≡ Eval o → ⊥) → q.evaluated ≡ p.evaluated → (o : Occ) → IsTrue (has q.evaluated o) ↔ IsEvaluated (before ++ item ∷ []) o
    evaluated-push item other same o = (λ h. Contains-append_left before (item ∷ []) (Eval o) ((follows.evaluated o).0 (sym (ap (λ s. has s o) same) ∙ h)), from)
      where
        from : IsEvaluated (before ++ item ∷ []) o → IsTrue (has q.evaluated o)
        from m = elim (Contains-push_cases before item (Eval o) m) [ inl n ↦ ap (λ s. has s o) same ∙ (follows.evaluated o).1 n | inr e ↦ absurd (other o e) ]

    -- an item that ends a visit at one occurrence
    follows-end : (item : PlanItem) (k v : ℕ) → v < 2 ^ 16 → ((o : Occ) → item ≡ Eval o → ⊥) → k < length (symbols_of r) → v ≡ suc (ended before k) → raised item k ≡ 1 → ((j : ℕ) → (j ≡ k → ⊥) → raised item j ≡ 0)
        → q.evaluated ≡ p.evaluated → Gave visits r k (v + first k) p.given q.given → q.made.items ≡ slice_set p.made.items k v → Follows visits r (before ++ item ∷ []) q
    follows-end item k v fits other within next one none same gave made = record {
      evaluated = evaluated-push item other same;
      given = given-more (passed_up_to before) (passed_up_to (before ++ item ∷ [])) k (v + first k)
          (let a = passed-ended before k in omega arith)
          (let a = passed-ended (before ++ item ∷ []) k in let b = ended-push before item k in omega arith)
          (λ j n. let a = passed-ended (before ++ item ∷ []) j in let b = ended-push before item j in let z = none j n in let d = passed-ended before j in omega arith)
          p.given q.given gave follows.given;
      each = ap length made ∙ (length-set p.made.items k v ∙ follows.each);
      made = λ j l. elim (cases_eq j k) [
        | inl e ↦ ap (λ m. slice_index m j) made ∙ (ap (λ i. slice_index (slice_set p.made.items k v) i) e ∙ (get_or-set_same p.made.items k v 0 (let a = follows.each in omega arith)
            ∙ (let b = ended-push before item k in let t : v ≡ ended (before ++ item ∷ []) k = omega arith in t ∙ ap (ended (before ++ item ∷ [])) (sym e))))
        | inr n ↦ ap (λ m. slice_index m j) made ∙ (get_or-set_other p.made.items k j v 0 n ∙ (follows.made j l ∙ (let b = ended-push before item j in let z = none j n in omega arith)))
      ];
      small = All-same (λ n. n < 2 ^ 16) q.made.items (slice_set p.made.items k v) made (All-set (λ n. n < 2 ^ 16) p.made.items k v fits follows.small);
      counted =
          let a = follows.counted in
          let s = sum_by-set (λ (x : ℕ). x) p.made.items k v 0 (let b = follows.each in omega arith) in
          let was = follows.made k within in
          let now = ap sum made in
          let z = ap (λ (s : Occurrences). count_by (λ (c : FlatComp). has s c.goal) r.comps) same in
          let l = length_push before item in
          omega (arith, a, s, was, now, z, l);
    }

    -- a visit of a child
    pub follows-visit : (symbols : List FlatSymbol) (k v : ℕ) → v < 2 ^ 16 → ((clause : ℕ) → Allows symbols visits r clause before (Visit k v))
        → q.evaluated ≡ p.evaluated → Gave visits r k v p.given q.given → q.made.items ≡ slice_set p.made.items k v → Follows visits r (before ++ Visit k v ∷ []) q
    follows-visit symbols zero v fits allows same gave made = absurd (let a = (allows 0).0 in omega (arith, a))
    follows-visit symbols (suc k) v fits allows same gave made =
        follows-end (Visit (suc k) v) (suc k) v fits (λ o e. absurd (cc)) (within v (allows 0).1 (allows 0).2) (allows 2) (raised-visit_itself k v) (raised-visit k v)
        same (subst (λ n. Gave visits r (suc k) n p.given q.given) (omega arith) gave) made
      where
        within : (w : ℕ) (class : VisitClass) → IsClassAt visits r (suc k) w class → suc k < length (symbols_of r)
        within zero class none = absurd none
        within (suc w) class (s, row, e, _, _) = slice_get_within (symbols_of r) (suc k) s e

    -- the end of a visit
    pub follows-leave : (symbols : List FlatSymbol) (v : ℕ) → v < 2 ^ 16 → ((clause : ℕ) → Allows symbols visits r clause before (Leave v))
        → q.evaluated ≡ p.evaluated → Gave visits r 0 (v + 1) p.given q.given → q.made.items ≡ slice_set p.made.items 0 v → Follows visits r (before ++ Leave v ∷ []) q
    follows-leave symbols v fits allows same gave made =
        follows-end (Leave v) 0 v fits (λ o e. absurd (cc)) (omega arith) (let a = (allows 5).0 in omega (arith, a)) refl (raised-leave v) same gave made

    -- an evaluation
    pub follows-eval : (symbols : List FlatSymbol) (o : Occ) → IsRule symbols r → ((clause : ℕ) → Allows symbols visits r clause before (Eval o))
        → ((x : Occ) → has q.evaluated x ≡ (is_same_occ o x || has p.evaluated x))
        → q.given ≡ p.given → q.made ≡ p.made → Follows visits r (before ++ Eval o ∷ []) q
    follows-eval symbols o rule allows added given made = record {
      evaluated = λ x. (to x, from x);
      given = λ x. (λ h. still x ((follows.given x).0 (sym (ap (λ s. has s x) given) ∙ h)), λ g. ap (λ s. has s x) given ∙ (follows.given x).1 (back x g));
      each = ap (λ (m : _). length m.items) made ∙ follows.each;
      made = λ k l. ap (λ (m : _). slice_index m.items k) made ∙ (follows.made k l ∙ (let b = ended-push before (Eval o) k in let z = raised-eval o k in omega arith));
      small = All-same (λ n. n < 2 ^ 16) q.made.items p.made.items (ap (λ (m : _). m.items) made) follows.small;
      counted = let a = follows.counted in let l = length_push before (Eval o) in let m = ap (λ (m : _). sum m.items) made in let n = count-more o (has p.evaluated) (has q.evaluated) added r.comps rule.once (allows 1).0 unseen in omega (arith, a, l, m, n);
    }
      where
        unseen : has p.evaluated o ≡ false
        unseen = go (has p.evaluated o) refl
          where
            go : (b : Bool) → has p.evaluated o ≡ b → b ≡ false
            go true e = absurd ((allows 1).1 ((follows.evaluated o).0 e))
            go false e = refl

        to : (x : Occ) → IsTrue (has q.evaluated x) → IsEvaluated (before ++ Eval o ∷ []) x
        to x h = elim (either (is_same_occ o x) (has p.evaluated x) (sym (added x) ∙ h)) [
          | inl s ↦ subst (λ y. IsEvaluated (before ++ Eval o ∷ []) y) (same-occurrence o x s) (Contains-push before (Eval o))
          | inr m ↦ Contains-append_left before (Eval o ∷ []) (Eval x) ((follows.evaluated x).0 m)
        ]

        from : (x : Occ) → IsEvaluated (before ++ Eval o ∷ []) x → IsTrue (has q.evaluated x)
        from x m = elim (Contains-push_cases before (Eval o) (Eval x) m) [
          | inl n ↦ added x ∙ right (is_same_occ o x) (has p.evaluated x) ((follows.evaluated x).1 n)
          | inr e ↦ added x ∙ left (is_same_occ o x) (has p.evaluated x) (occurrence-same o x (let s : o ≡ x = cc in s))
        ]

        up_to : (k : ℕ) → passed_up_to (before ++ Eval o ∷ []) k ≡ passed_up_to before k
        up_to k = let a = passed-ended (before ++ Eval o ∷ []) k in let b = ended-push before (Eval o) k in let z = raised-eval o k in let d = passed-ended before k in omega arith

        still : (x : Occ) → IsGiven visits r before x → IsGiven visits r (before ++ Eval o ∷ []) x
        still x (v, l, m) = (v, (let e = up_to x.occ in omega arith), m)

        back : (x : Occ) → IsGiven visits r (before ++ Eval o ∷ []) x → IsGiven visits r before x
        back x (v, l, m) = (v, (let e = up_to x.occ in omega arith), m)

-- what three calls' facts give together, where the call gave a value
pub on_ok3 : {T E P Q R S : Type 0} (r : Result T E) → OnOk r P → OnOk r Q → OnOk r R → (P → Q → R → S) → OnOk r S
on_ok3 (Ok x) p q s f = f p q s
on_ok3 (Err e) p q s f = tt

module _ (visits : List (List VisitClass)) (r : FlatRule) (item : PlanItem) (p q : Progress) where
  pub goes-eval : (o : Occ) → item ≡ Eval o → ((x : Occ) → has q.evaluated x ≡ (is_same_occ o x || has p.evaluated x))
      → q.given ≡ p.given → q.made ≡ p.made → GoesOn visits r item p q
  goes-eval o e added given made = subst (λ i. GoesOn visits r i p q) (sym e) (λ symbols before rule follows allows. follows-eval visits r before p q follows symbols o rule allows added given made)

  pub goes-visit : (k v : ℕ) → v < 2 ^ 16 → item ≡ Visit k v → q.evaluated ≡ p.evaluated → Gave visits r k v p.given q.given → q.made.items ≡ slice_set p.made.items k v → GoesOn visits r item p q
  goes-visit k v fits e same gave made = subst (λ i. GoesOn visits r i p q) (sym e) (λ symbols before rule follows allows. follows-visit visits r before p q follows symbols k v fits allows same gave made)

  pub goes-leave : (v : ℕ) → v < 2 ^ 16 → item ≡ Leave v → q.evaluated ≡ p.evaluated → Gave visits r 0 (v + 1) p.given q.given → q.made.items ≡ slice_set p.made.items 0 v → GoesOn visits r item p q
  goes-leave v fits e same gave made = subst (λ i. GoesOn visits r i p q) (sym e) (λ symbols before rule follows allows. follows-leave visits r before p q follows symbols v fits allows same gave made)
