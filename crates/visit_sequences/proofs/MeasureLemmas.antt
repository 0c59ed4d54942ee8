-- Each item that is chosen leaves less to do, and the items make the rule's sequence.
use Rattle.std.specs.Prelude.{Contains, slice_get, unwrap_or, map, take, ◌-◌}
use Rattle.std.specs.List.{list_any, AllZip}
use Rattle.std.proofs.Common.{◌≡◌, ℕ, zero, suc, ◌<◌, ◌≤◌, ◌+◌, ◌⊎◌, inl, inr, List, [], ◌∷◌, ◌++◌, length, get_or, Option, Some, Bool, true, false, true≢false, cond, refl, arith, ap, sym, subst, ◌∙◌, length-append}
use Rattle.std.proofs.Math.Seq.{take-append_seam}
use Rattle.std.proofs.lemmas.Bool.{cases_order, or_cases, or_left, or_right, false_from_ne_true}
use Rattle.std.proofs.lemmas.Option.{none-some, slice_get_within}
use Rattle.std.proofs.lemmas.List.{take-append-le, take_more}
use Rattle.std.proofs.lemmas.List.Folds.{list_any-append}
use Rattle.lido_base.specs.declared.ids.SymId.{SymId}
use Rattle.flat_grammar.specs.declared.flat.Occ.{Occ}
use Rattle.flat_grammar.specs.declared.flat.FlatSymbol.{FlatSymbol}
use Rattle.flat_grammar.specs.declared.flat.FlatRule.{FlatRule}
use Rattle.flat_grammar.specs.declared.flat.FlatComp.{FlatComp}
use Rattle.flat_grammar.specs.declared.plan.VisitClass.{VisitClass}
use Rattle.flat_grammar.specs.declared.plan.PlanItem.{PlanItem}
use Rattle.flat_grammar.specs.declared.plan.PlanItem.TheVariants.{Eval, Visit, Leave}
use Rattle.flat_grammar.specs.WellFormed.{is_same_occ}
use Rattle.flat_grammar.specs.SoundPlan.{segment_after, visits_made, IsEvaluated, IsClassAt}
use Rattle.flat_grammar.specs.Construction.{IsNext, IsChosen, evaluation, IsConstructed}
use Rattle.flat_grammar.proofs.Lists.{held, contains-nil, contains-cons, contains-first, contains-later}
use Rattle.visit_sequences.specs.Steps.{visits_there}
use Rattle.visit_sequences.proofs.Occurrences.{same-itself, same-occurrence}
use Rattle.visit_sequences.proofs.Soundness.{leave-is, visit-next}
use Rattle.visit_sequences.proofs.StepLemmas.{visit-counts_same, leave-segment, eval-segment, visit-segment, made-kept, segment-kept}

abbrev is_evaluation_of : Occ → PlanItem → Bool
is_evaluation_of o (Eval p) = is_same_occ p o
is_evaluation_of o (Visit k v) = false
is_evaluation_of o (Leave v) = false

any-evaluated : (o : Occ) (before : List PlanItem) → list_any (is_evaluation_of o) before ≡ true → IsEvaluated before o
any-evaluated o [] h = absurd (true≢false (sym h))
any-evaluated o (x ∷ before) h = elim (or_cases (is_evaluation_of o x) (list_any (is_evaluation_of o) before) h) [ inl e ↦ first x e | inr k ↦ contains-later x (Eval o) before (any-evaluated o before k) ]
  where
    first : (x : PlanItem) → is_evaluation_of o x ≡ true → Contains (x ∷ before) (Eval o)
    first (Eval p) e = subst (λ q. Contains (Eval p ∷ before) (Eval q)) (same-occurrence p o e) (contains-first (Eval p) before)
    first (Visit k v) e = absurd (true≢false (sym e))
    first (Leave v) e = absurd (true≢false (sym e))

-- how many of these goals are not evaluated
abbrev left_goals : List PlanItem → List FlatComp → ℕ
left_goals before [] = 0
left_goals before (c ∷ comps) = cond (list_any (is_evaluation_of c.goal) before) 0 1 + left_goals before comps

one-less : (o : Occ) (before : List PlanItem) (x : PlanItem) → cond {A = ℕ} (list_any (is_evaluation_of o) (before ++ x ∷ [])) 0 1 ≤ cond {A = ℕ} (list_any (is_evaluation_of o) before) 0 1
one-less o before x = go (list_any (is_evaluation_of o) before) (list_any (is_evaluation_of o) (before ++ x ∷ [])) (λ h. list_any-append (is_evaluation_of o) before (x ∷ []) ∙ or_left (list_any (is_evaluation_of o) before) (list_any (is_evaluation_of o) (x ∷ [])) h)
  where
    go : (a b : Bool) → (a ≡ true → b ≡ true) → cond {A = ℕ} b 0 1 ≤ cond {A = ℕ} a 0 1
    go true true h = omega arith
    go true false h = absurd (true≢false (sym (h refl)))
    go false true h = omega arith
    go false false h = omega arith

goals-less : (before : List PlanItem) (x : PlanItem) (comps : List FlatComp) → left_goals (before ++ x ∷ []) comps ≤ left_goals before comps
goals-less before x [] = omega arith
goals-less before x (c ∷ comps) = let a = one-less c.goal before x in let b = goals-less before x comps in omega (arith, a, b)

one-drops : (o : Occ) (before : List PlanItem) → (IsEvaluated before o → ⊥) → cond {A = ℕ} (list_any (is_evaluation_of o) (before ++ Eval o ∷ [])) 0 1 < cond {A = ℕ} (list_any (is_evaluation_of o) before) 0 1
one-drops o before n =
    let none : list_any (is_evaluation_of o) before ≡ false = false_from_ne_true (list_any (is_evaluation_of o) before) (λ h. n (any-evaluated o before h)) in
    let some : list_any (is_evaluation_of o) (before ++ Eval o ∷ []) ≡ true = list_any-append (is_evaluation_of o) before (Eval o ∷ [])
    ∙ or_right (list_any (is_evaluation_of o) before) (list_any (is_evaluation_of o) (Eval o ∷ [])) (or_left (is_same_occ o o) false (same-itself o)) in
    let a : cond (list_any (is_evaluation_of o) before) 0 1 ≡ 1 = ap (λ b. cond {A = ℕ} b 0 1) none in
    let b : cond (list_any (is_evaluation_of o) (before ++ Eval o ∷ [])) 0 1 ≡ 0 = ap (λ b. cond {A = ℕ} b 0 1) some in omega (arith, a, b)

goals-drop : (o : Occ) (before : List PlanItem) (comps : List FlatComp) → Contains (map (λ (c : FlatComp). c.goal) comps) o → (IsEvaluated before o → ⊥) → left_goals (before ++ Eval o ∷ []) comps < left_goals before comps
goals-drop o before [] m n = absurd (contains-nil o m)
goals-drop o before (c ∷ comps) m n = elim (contains-cons c.goal o (map (λ (d : FlatComp). d.goal) comps) m) [
  | inl e ↦ (let a = subst (λ q. cond {A = ℕ} (list_any (is_evaluation_of q) (before ++ Eval o ∷ [])) 0 1 < cond {A = ℕ} (list_any (is_evaluation_of q) before) 0 1) (sym e) (one-drops o before n) in let b = goals-less before (Eval o) comps in omega (arith, a, b))
  | inr k ↦ (let a = one-less c.goal before (Eval o) in let b = goals-drop o before comps k n in omega (arith, a, b))
]

module _ (visits : List (List VisitClass)) (r : FlatRule) where
  abbrev row_length : SymId → ℕ
  row_length s = length (unwrap_or (slice_get visits s.0) [])

  -- how many visits these children, counted from k, have left
  abbrev left_visits : List PlanItem → ℕ → List SymId → ℕ
  left_visits before k [] = 0
  left_visits before k (s ∷ more) = (row_length s - visits_made before k) + left_visits before (suc k) more

  visits-less : (before : List PlanItem) (x : PlanItem) (k : ℕ) (ss : List SymId) → left_visits (before ++ x ∷ []) k ss ≤ left_visits before k ss
  visits-less before x k [] = omega arith
  visits-less before x k (s ∷ more) = let a = made-kept visits r before x k in let b = visits-less before x (suc k) more in omega (arith, a, b)

  visits-drop : (before : List PlanItem) (n v : ℕ) (k i : ℕ) (ss : List SymId) (s : SymId) → slice_get ss i ≡ Some s → n ≡ k + i → visits_made before n < row_length s → left_visits (before ++ Visit n v ∷ []) k ss < left_visits before k ss
  visits-drop before n v k i [] s e f h = absurd (none-some s e)
  visits-drop before n v k zero (q ∷ more) s e f h =
      let same : n ≡ k = omega (arith, f) in
      let a = visit-counts_same visits r before n v in
      let b = ap (λ j. visits_made (before ++ Visit n v ∷ []) j) same in
      let c = ap (λ j. visits_made before j) same in
      let d = visits-less before (Visit n v) (suc k) more in
      let l = ap row_length (held e) in omega (arith, a, b, c, d, h, l)
  visits-drop before n v k (suc i) (q ∷ more) s e f h = let a = made-kept visits r before (Visit n v) k in let b = visits-drop before n v (suc k) i more s e (omega (arith, f)) h in omega (arith, a, b)

  -- what is left to do: goals, the children's visits, the left side's visits
  abbrev pub left_over : List PlanItem → ℕ
  left_over before = left_goals before r.comps + (left_visits before 1 r.right + (length (visits_there visits r 0) + 1 - segment_after before))

  module _ (symbols : List FlatSymbol) (rules : List FlatRule) where
    pub chosen-drops : (before : List PlanItem) (x : PlanItem) → IsChosen symbols rules visits r before x → segment_after before ≤ length (visits_there visits r 0) → left_over (before ++ x ∷ []) < left_over before
    chosen-drops before (Eval o) (evaluation (left, h) least) within =
        let a = goals-drop o before r.comps left.0 left.1 in let b = visits-less before (Eval o) 1 r.right in let c = segment-kept visits r before (Eval o) in omega (arith, a, b, c)
    chosen-drops before (Visit k v) chosen within = go (visit-next symbols rules visits r before k v chosen)
      where
        go : (class : VisitClass) × IsNext symbols rules visits r before k v class → left_over (before ++ Visit k v ∷ []) < left_over before
        go (class, (pos, e, at)) = down k pos (subst (λ n. IsClassAt visits r k n class) e at)
          where
            down : (j : ℕ) → 0 < j → IsClassAt visits r j (suc (visits_made before j)) class → left_over (before ++ Visit j v ∷ []) < left_over before
            down zero h there = absurd (omega (arith, h))
            down (suc i) h (s, row, place, f, g) =
                let l : row_length s ≡ length row = ap (λ (o : Option (List VisitClass)). length (unwrap_or o [])) f in
                let m = slice_get_within row (visits_made before (suc i)) class g in
                let next : suc i ≡ 1 + i = omega arith in
                let a = visits-drop before (suc i) v 1 i r.right s place next (omega (arith, l, m)) in
                let b = goals-less before (Visit (suc i) v) r.comps in
                let c = segment-kept visits r before (Visit (suc i) v) in omega (arith, a, b, c)
    chosen-drops before (Leave n) chosen within =
        let a = goals-less before (Leave n) r.comps in let b = visits-less before (Leave n) 1 r.right in let c = leave-segment visits r before n in omega (arith, a, b, c, within)

    -- the present visit is not past the last
    pub still-within : (before : List PlanItem) (x : PlanItem) → IsChosen symbols rules visits r before x → segment_after before ≤ length (visits_there visits r 0) → (x ≡ Leave (length (visits_there visits r 0)) → ⊥) → segment_after (before ++ x ∷ []) ≤ length (visits_there visits r 0)
    still-within before (Eval o) chosen within n = let a = eval-segment visits r before o in omega (arith, a, within)
    still-within before (Visit k v) chosen within n = let a = visit-segment visits r before k v in omega (arith, a, within)
    still-within before (Leave m) chosen within n =
        let a = leave-segment visits r before m in let b = leave-is symbols rules visits r before m chosen in
        elim (cases_order m (length (visits_there visits r 0))) [ inl e ↦ absurd (n (ap Leave e)) | inr o ↦ elim o [ inl l ↦ omega (arith, a, b, l) | inr g ↦ omega (arith, b, g, within) ] ]

    -- each item is the one that is chosen behind those before it
    abbrev pub EachChosen : List PlanItem → Type 0
    EachChosen items = (place : ℕ) (item : PlanItem) → slice_get items place ≡ Some item → IsChosen symbols rules visits r (take place items) item

    slice_get-front : (xs : List PlanItem) (x : PlanItem) (k : ℕ) → k < length xs → slice_get (xs ++ x ∷ []) k ≡ slice_get xs k
    slice_get-front [] x k h = absurd (omega (arith, h))
    slice_get-front (y ∷ xs) x zero h = refl
    slice_get-front (y ∷ xs) x (suc k) h = slice_get-front xs x k (omega (arith, h))

    slice_get-end : (xs : List PlanItem) (x : PlanItem) → slice_get (xs ++ x ∷ []) (length xs) ≡ Some x
    slice_get-end [] x = refl
    slice_get-end (y ∷ xs) x = slice_get-end xs x

    pub each-more : (items : List PlanItem) (x : PlanItem) → EachChosen items → IsChosen symbols rules visits r items x → EachChosen (items ++ x ∷ [])
    each-more items x each chosen place item e = go (cases_order place (length items))
      where
        go : (place ≡ length items) ⊎ ((place < length items) ⊎ (length items < place)) → IsChosen symbols rules visits r (take place (items ++ x ∷ [])) item
        go (inl same) =
            let it : x ≡ item = held (sym (slice_get-end items x) ∙ (ap (λ k. slice_get (items ++ x ∷ []) k) (sym same) ∙ e)) in
            subst (λ l. IsChosen symbols rules visits r l item) (sym (ap (λ k. take k (items ++ x ∷ [])) same ∙ take-append_seam items (x ∷ []))) (subst (λ i. IsChosen symbols rules visits r items i) it chosen)
        go (inr (inl l)) = subst (λ l. IsChosen symbols rules visits r l item) (sym (take-append-le place items (x ∷ []) (omega (arith, l)))) (each place item (sym (slice_get-front items x place l) ∙ e))
        go (inr (inr g)) = let l = slice_get_within (items ++ x ∷ []) place item e in let m = length-append items (x ∷ []) in absurd (omega (arith, g, l, m))

    -- where the item ends the last visit, the items are the rule's sequence
    pub whole-sequence : (items : List PlanItem) (x : PlanItem) (row : List VisitClass) → slice_get visits r.left.0 ≡ Some row → length (visits_there visits r 0) ≡ length row → EachChosen (items ++ x ∷ []) → x ≡ Leave (length (visits_there visits r 0))
        → IsConstructed symbols rules visits r (items ++ x ∷ [])
    whole-sequence items x row e f each end = record { chosen = each; ended = (items, row, e, ap (λ i. items ++ i ∷ []) (end ∙ ap Leave f)) }

-- one more rule has its sequence
pub zip-push : {A B : Type 0} (R : A → B → Type 0) (xs : List A) (ys : List B) (x : A) (y : B) → AllZip R xs ys → R x y → AllZip R (xs ++ x ∷ []) (ys ++ y ∷ [])
zip-push R [] [] x y h one = (one, tt)
zip-push R [] (b ∷ ys) x y h one = absurd h
zip-push R (a ∷ xs) [] x y h one = absurd h
zip-push R (a ∷ xs) (b ∷ ys) x y h one = (h.0, zip-push R xs ys x y h.1 one)

pub zip-more : {A B : Type 0} (R : A → B → Type 0) (xs : List A) (i : ℕ) (x : A) (old new : List B) (y : B) → i < length xs → x ≡ get_or xs i x → new ≡ old ++ y ∷ [] → AllZip R (take i xs) old → R x y → AllZip R (take (i + 1) xs) new
zip-more R xs i x old new y h at e all one =
    subst (λ l. AllZip R (take (i + 1) xs) l) (sym e) (subst (λ l. AllZip R l (old ++ y ∷ [])) (sym (take_more xs i x h)) (zip-push R (take i xs) old (get_or xs i x) y all (subst (λ z. R z y) at one)))

-- one more copy
pub copied-more : {X : Type 0} (xs : List X) (i : ℕ) (x y : X) (old new : List X) → i < length xs → x ≡ get_or xs i x → y ≡ x → new ≡ old ++ y ∷ [] → old ≡ take i xs → new ≡ take (i + 1) xs
copied-more xs i x y old new h at same e so_far = e ∙ (ap (λ l. l ++ y ∷ []) so_far ∙ (ap (λ z. take i xs ++ z ∷ []) (same ∙ at) ∙ sym (take_more xs i x h)))
