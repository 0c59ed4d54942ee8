-- What the checker finds of the end of a sequence is the first clause that it breaks.
use Rattle.std.specs.Prelude.{Bool, true, false, not, ◌||◌, IsTrue, ◌↔◌, slice_get, slice_index, option_and_then}
use Rattle.std.specs.List.{list_all, slice_index_or}
use Rattle.std.proofs.Common.{◌≡◌, ℕ, zero, suc, ◌+◌, ◌-◌, ◌<◌, ◌≤◌, ◌⊎◌, inl, inr, List, [], ◌∷◌, ◌++◌, length, Option, Some, None, refl, arith, ap, sym, subst, ◌∙◌, nat_eq, eqb-true, eq-eqb}
use Rattle.std.proofs.lemmas.Bool.{cases_eq}
use Rattle.std.proofs.lemmas.Option.{none-some, slice_get_within, slice_get-get_or, get_or_from_slice_get}
use Rattle.std.proofs.lemmas.List.{length_push}
use Rattle.std.proofs.lemmas.List.Folds.{list_all-map}
use Rattle.lido_base.specs.declared.ids.SymId.{SymId}
use Rattle.flat_grammar.specs.declared.flat.FlatSymbol.{FlatSymbol}
use Rattle.flat_grammar.specs.declared.flat.FlatRule.{FlatRule}
use Rattle.flat_grammar.specs.declared.flat.FlatComp.{FlatComp}
use Rattle.flat_grammar.specs.declared.plan.VisitClass.{VisitClass}
use Rattle.flat_grammar.specs.declared.plan.PlanItem.{PlanItem}
use Rattle.flat_grammar.specs.declared.plan.PlanItem.TheVariants.{Eval, Visit, Leave}
use Rattle.flat_grammar.specs.WellFormed.{is_nonterminal}
use Rattle.flat_grammar.specs.SoundPlan.{visits_made, goals_of, AllowsEnd}
use Rattle.flat_grammar.proofs.Lists.{held}
use Rattle.sequence_checker.specs.declared.progress.Progress.{Progress}
use Rattle.sequence_checker.specs.Sets.{has}
use Rattle.sequence_checker.specs.Steps.{Follows}
use Rattle.sequence_checker.specs.Faults.{IsFirstBroken, is_all, is_visited, visit_ended, last_ended}
use Rattle.sequence_checker.proofs.Bools.{never, all-tested, tested-all}

-- the last item of a list that is put together
last-of-push : (front : List PlanItem) (item : PlanItem) → slice_get (front ++ item ∷ []) (length (front ++ item ∷ []) - 1) ≡ Some item
last-of-push front item = ap (slice_get (front ++ item ∷ [])) (let l = length_push front item in let e : length (front ++ item ∷ []) - 1 ≡ length front = omega arith in e) ∙ behind front
  where
    behind : (xs : List PlanItem) → slice_get (xs ++ item ∷ []) (length xs) ≡ Some item
    behind [] = refl
    behind (x ∷ xs) = behind xs

-- a list with a last item is put together
pub push-of-last : (xs : List PlanItem) (item : PlanItem) → slice_get xs (length xs - 1) ≡ Some item → (front : List PlanItem) × (xs ≡ front ++ item ∷ [])
push-of-last [] item e = absurd (none-some _ e)
push-of-last (x ∷ []) item e = ([], ap (λ y. y ∷ []) (held e))
push-of-last (x ∷ (y ∷ xs)) item e =
    let n : length (x ∷ (y ∷ xs)) - 1 ≡ suc (length (y ∷ xs) - 1) = omega arith in
    let p = push-of-last (y ∷ xs) item (sym (ap (slice_get (x ∷ (y ∷ xs))) n) ∙ e) in (x ∷ p.0, ap (λ l. x ∷ l) p.1)

pub ended-by-last : (seq : List PlanItem) (v : ℕ) → last_ended seq ≡ Some v → (front : List PlanItem) × (seq ≡ front ++ Leave v ∷ [])
ended-by-last seq v e = by (slice_get seq (length seq - 1)) refl e
  where
    by : (o : Option PlanItem) → slice_get seq (length seq - 1) ≡ o → option_and_then visit_ended o ≡ Some v → (front : List PlanItem) × (seq ≡ front ++ Leave v ∷ [])
    by None f g = absurd (none-some _ g)
    by (Some (Eval o)) f g = absurd (none-some _ g)
    by (Some (Visit k w)) f g = absurd (none-some _ g)
    by (Some (Leave w)) f g = push-of-last seq (Leave v) (f ∙ ap (λ x. Some (Leave x)) (held g))

pub last-ended-by : (seq front : List PlanItem) (v : ℕ) → seq ≡ front ++ Leave v ∷ [] → last_ended seq ≡ Some v
last-ended-by seq front v e = ap last_ended e ∙ ap (option_and_then visit_ended) (last-of-push front (Leave v))

module _ (symbols : List FlatSymbol) (visits : List (List VisitClass)) (r : FlatRule) (seq : List PlanItem) where
  -- whether the last visit of the left side ends it
  pub ends-is : (row : List VisitClass) (v : ℕ) → slice_get visits r.left.0 ≡ Some row → last_ended seq ≡ Some v → IsTrue (nat_eq (length row) v) ↔ AllowsEnd symbols visits r 5 seq
  ends-is row v e f = (to, from)
    where
      to : IsTrue (nat_eq (length row) v) → AllowsEnd symbols visits r 5 seq
      to h = let p = ended-by-last seq v f in (p.0, row, e, p.1 ∙ ap (λ n. p.0 ++ Leave n ∷ []) (sym (eqb-true (length row) v h)))

      from : AllowsEnd symbols visits r 5 seq → IsTrue (nat_eq (length row) v)
      from (front, other, g, h) = eq-eqb (length row) v (ap (λ (l : List VisitClass). length l) (held (sym e ∙ g)) ∙ held (sym (last-ended-by seq front (length other) h) ∙ f))

  pub no-row : (b : Bool) → b ≡ false → slice_get visits r.left.0 ≡ None → IsTrue b ↔ AllowsEnd symbols visits r 5 seq
  no-row b n e = ((λ h. never (sym n ∙ h)), (λ (front, row, g, h). absurd (none-some _ (sym e ∙ g))))

  module _ (p : Progress) (follows : Follows visits r seq p) where
    pub goals-are : IsTrue (list_all (has p.evaluated) (goals_of r)) ↔ AllowsEnd symbols visits r 1 seq
    goals-are = (
      (λ h k d l. (follows.evaluated (slice_index_or (goals_of r) k d)).0 (all-tested (has p.evaluated) (goals_of r) h k d l)),
      (λ h. tested-all (has p.evaluated) (goals_of r) (λ k d l. (follows.evaluated (slice_index_or (goals_of r) k d)).1 (h k d l))),
    )

    -- all visits of the children were made
    abbrev pub AreVisited : Type 0
    AreVisited = (k : ℕ) (s : SymId) → slice_get r.right k ≡ Some s → IsTrue (is_visited symbols visits p (suc k) s)

    pub visited-are : AreVisited ↔ AllowsEnd symbols visits r 2 seq
    visited-are = (to, from)
      where
        made : (k : ℕ) (s : SymId) → slice_get r.right k ≡ Some s → slice_index p.made.items (suc k) ≡ visits_made seq (suc k)
        made k s e = follows.made (suc k) (let l = slice_get_within r.right k s e in omega arith)

        apart : (b c : Bool) → IsTrue (not b || c) → IsTrue b → IsTrue c
        apart true c h t = h
        apart false c h t = never t

        joined : (b c : Bool) → (IsTrue b → IsTrue c) → IsTrue (not b || c)
        joined true c h = h refl
        joined false c h = refl

        to : AreVisited → AllowsEnd symbols visits r 2 seq
        to all zero s row h at nonterminal there = absurd (omega (arith, h))
        to all (suc k) s row h at nonterminal there =
            sym (eqb-true (length row) (visits_made seq (suc k)) (subst (λ o. IsTrue (is_all o (visits_made seq (suc k)))) there
            (subst (λ n. IsTrue (is_all (slice_get visits s.0) n)) (made k s at) (apart (is_nonterminal symbols s) (is_all (slice_get visits s.0) (slice_index p.made.items (suc k))) (all k s at) nonterminal))))

        from : AllowsEnd symbols visits r 2 seq → AreVisited
        from allows k s at = joined (is_nonterminal symbols s) (is_all (slice_get visits s.0) (slice_index p.made.items (suc k))) (λ nonterminal. by nonterminal (slice_get visits s.0) refl)
          where
            by : IsTrue (is_nonterminal symbols s) → (row : Option (List VisitClass)) → slice_get visits s.0 ≡ row → IsTrue (is_all row (slice_index p.made.items (suc k)))
            by nonterminal None e = refl
            by nonterminal (Some row) e = eq-eqb (length row) (slice_index p.made.items (suc k)) (sym (made k s at ∙ allows (suc k) s row (omega arith) at nonterminal e))

    goals-tested : (b : Bool) → list_all (λ (c : FlatComp). has p.evaluated c.goal) r.comps ≡ b → list_all (has p.evaluated) (goals_of r) ≡ b
    goals-tested b e = list_all-map (has p.evaluated) (λ (c : FlatComp). c.goal) r.comps ∙ e

    first-end : (clause : ℕ) → clause < 1 → AllowsEnd symbols visits r clause seq
    first-end zero h = tt
    first-end (suc n) h = absurd (omega (arith, h))

    pub no-goals : list_all (λ (c : FlatComp). has p.evaluated c.goal) r.comps ≡ false → IsFirstBroken (λ clause. AllowsEnd symbols visits r clause seq) (Some 1)
    no-goals e = ((λ a. never (sym (goals-tested false e) ∙ goals-are.1 a)), first-end)

    pub no-visits : IsTrue (list_all (λ (c : FlatComp). has p.evaluated c.goal) r.comps) → (AreVisited → ⊥) → IsFirstBroken (λ clause. AllowsEnd symbols visits r clause seq) (Some 2)
    no-visits goals none = ((λ a. none (visited-are.1 a)), below)
      where
        below : (clause : ℕ) → clause < 2 → AllowsEnd symbols visits r clause seq
        below zero h = tt
        below (suc zero) h = goals-are.0 (goals-tested true goals)
        below (suc (suc n)) h = absurd (omega (arith, h))

    pub no-end : IsTrue (list_all (λ (c : FlatComp). has p.evaluated c.goal) r.comps) → AreVisited → (AllowsEnd symbols visits r 5 seq → ⊥) → IsFirstBroken (λ clause. AllowsEnd symbols visits r clause seq) (Some 5)
    no-end goals visited none = (none, below)
      where
        below : (clause : ℕ) → clause < 5 → AllowsEnd symbols visits r clause seq
        below zero h = tt
        below (suc zero) h = goals-are.0 (goals-tested true goals)
        below (suc (suc zero)) h = visited-are.0 visited
        below (suc (suc (suc zero))) h = tt
        below (suc (suc (suc (suc zero)))) h = tt
        below (suc (suc (suc (suc (suc n))))) h = absurd (omega (arith, h))

    pub right-end : IsTrue (list_all (λ (c : FlatComp). has p.evaluated c.goal) r.comps) → AreVisited → AllowsEnd symbols visits r 5 seq → IsFirstBroken (λ clause. AllowsEnd symbols visits r clause seq) None
    right-end goals visited ends zero = tt
    right-end goals visited ends (suc zero) = goals-are.0 (goals-tested true goals)
    right-end goals visited ends (suc (suc zero)) = visited-are.0 visited
    right-end goals visited ends (suc (suc (suc zero))) = tt
    right-end goals visited ends (suc (suc (suc (suc zero)))) = tt
    right-end goals visited ends (suc (suc (suc (suc (suc zero))))) = ends
    right-end goals visited ends (suc (suc (suc (suc (suc (suc n)))))) = tt

-- A loop that tests each child, counted from 1.
module _ (test : ℕ → SymId → Bool) (right items : List SymId) (same : items ≡ right) where
  -- the children before a place pass the test
  abbrev pub PassBefore : ℕ → Type 0
  PassBefore n = (j : ℕ) (s : SymId) → j < n → slice_get right j ≡ Some s → IsTrue (test (suc j) s)

  -- all children pass the test
  abbrev pub PassAll : Type 0
  PassAll = (k : ℕ) (s : SymId) → slice_get right k ≡ Some s → IsTrue (test (suc k) s)

  pub child-fails : (k : ℕ) (d : SymId) → k < length items → test (k + 1) (slice_index_or items k d) ≡ false → IsTrue false ↔ PassAll
  child-fails k d l e = ((λ h. never h), (λ all. sym e ∙ (ap (λ n. test n (slice_index_or items k d)) (omega arith) ∙ all k (slice_index_or items k d) (ap (λ xs. slice_get xs k) (sym same) ∙ slice_get-get_or items k d l))))

  pub child-passes : (k : ℕ) (d : SymId) → PassBefore k → test (k + 1) (slice_index_or items k d) ≡ true → PassBefore (k + 1)
  child-passes k d before e j s l at = by (cases_eq j k)
    where
      by : (j ≡ k) ⊎ (j ≡ k → ⊥) → IsTrue (test (suc j) s)
      by (inl f) =
          let item : slice_index_or items k d ≡ s = get_or_from_slice_get items k s d (ap (λ xs. slice_get xs k) same ∙ (ap (slice_get right) (sym f) ∙ at)) in
          let n : suc j ≡ k + 1 = omega arith in
          ap (λ m. test m s) n ∙ (ap (test (k + 1)) (sym item) ∙ e)
      by (inr n) = before j s (omega arith) at

  pub children-pass : (k : ℕ) → PassBefore k → length items ≤ k → IsTrue true ↔ PassAll
  children-pass k before l = ((λ h j s e. let m : length items ≡ length right = ap length same in let w = slice_get_within right j s e in before j s (omega arith) e), (λ all. refl))
