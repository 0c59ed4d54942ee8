-- The construction gives a rule one sequence at most.
use Rattle.std.proofs.lemmas.List.Sums.{sum_by-append, sum_by-cons}
use Rattle.flat_grammar.proofs.Lists.{held, contains-nil, contains-cons, last-in-end}
use Rattle.std.specs.Prelude.{Contains, slice_get, take, count_by}
use Rattle.std.proofs.Common.{◌≡◌, ℕ, suc, inl, inr, List, refl, arith, ap, sym, ◌∙◌, zero, ◌+◌, ◌<◌, ◌⊎◌, [], ◌∷◌, ◌++◌, length, Some, subst, append_assoc, true, true≢false, cond}
use Rattle.flat_grammar.specs.declared.flat.Occ.{Occ}
use Rattle.flat_grammar.specs.declared.flat.FlatSymbol.{FlatSymbol}
use Rattle.flat_grammar.specs.declared.flat.FlatRule.{FlatRule}
use Rattle.flat_grammar.specs.declared.plan.PlanItem.{PlanItem}
use Rattle.flat_grammar.specs.declared.plan.PlanItem.TheVariants.{Eval, Visit, Leave}
use Rattle.flat_grammar.specs.declared.plan.VisitClass.{VisitClass}
use Rattle.flat_grammar.specs.Cycles.{IsAtMost}
use Rattle.flat_grammar.specs.SoundPlan.{segment_after, is_leave, is_visit_of}
use Rattle.flat_grammar.specs.Construction.{IsChosen, evaluation, ready_visit, next_visit, leave, IsConstructed}

same-occurrence : (o p : Occ) → IsAtMost o p → IsAtMost p o → o ≡ p
same-occurrence o p (inl a) (inl b) = absurd (omega (arith, a, b))
same-occurrence o p (inl a) (inr b) = absurd (let e = b.0 in omega (arith, a, e))
same-occurrence o p (inr a) (inl b) = absurd (let e = a.0 in omega (arith, b, e))
same-occurrence o p (inr a) (inr b) = let l = a.1 in let m = b.1 in let f : o.attr.0 ≡ p.attr.0 = omega (arith, l, m) in λ i. record { occ = a.0 i; attr = record { 0 = f i } }

same-visit : (k v j w : ℕ) → k ≡ j → v ≡ w → Visit k v ≡ Visit j w
same-visit k v j w e f = λ i. Visit (e i) (f i)

module _ (symbols : List FlatSymbol) (rules : List FlatRule) (visits : List (List VisitClass)) (r : FlatRule) where
  -- one item is chosen
  pub IsChosen-only : (before : List PlanItem) (x y : PlanItem) → IsChosen symbols rules visits r before x → IsChosen symbols rules visits r before y → x ≡ y
  IsChosen-only before x y (evaluation {o} a least) (evaluation {o = p} b least') = ap Eval (same-occurrence o p (least p b) (least' o a))
  IsChosen-only before x y (evaluation {o} a least) (ready_visit n owing b least') = absurd (n (o, a))
  IsChosen-only before x y (evaluation {o} a least) (next_visit class n m last b least') = absurd (n (o, a))
  IsChosen-only before x y (evaluation {o} a least) (leave n m l) = absurd (n (o, a))
  IsChosen-only before x y (ready_visit n owing b least) (evaluation {o} a least') = absurd (n (o, a))
  IsChosen-only before x y (ready_visit {k} {v} n owing b least) (ready_visit {k = j} {v = w} n' owing' b' least') =
      let p = least j w b' in let q = least' k v b in let e : k ≡ j = omega (arith, p, q) in
      same-visit k v j w e (b.1.1 ∙ (ap (λ i. suc (count_by (is_visit_of i) before)) e ∙ sym b'.1.1))
  IsChosen-only before x y (ready_visit {k} {v} n owing b least) (next_visit class n' m last b' least') = absurd (m (owing, k, v, b))
  IsChosen-only before x y (ready_visit {k} {v} n owing b least) (leave n' m l) = absurd (m (owing, k, v, b))
  IsChosen-only before x y (next_visit class n m last b least) (evaluation {o} a least') = absurd (n (o, a))
  IsChosen-only before x y (next_visit class n m last b least) (ready_visit {k} {v} n' owing b' least') = absurd (m (owing, k, v, b'))
  IsChosen-only before x y (next_visit {k} {v} class n m last b least) (next_visit {k = j} {v = w} other n' m' last' b' least') =
      let p = least j w other b' in let q = least' k v class b in let e : k ≡ j = omega (arith, p, q) in
      same-visit k v j w e (b.1 ∙ (ap (λ i. suc (count_by (is_visit_of i) before)) e ∙ sym b'.1))
  IsChosen-only before x y (next_visit {k} {v} class n m last b least) (leave n' m' l) = absurd (l (last, k, v, class, b))
  IsChosen-only before x y (leave n m l) (evaluation {o} a least) = absurd (n (o, a))
  IsChosen-only before x y (leave n m l) (ready_visit {k} {v} n' owing b least) = absurd (m (owing, k, v, b))
  IsChosen-only before x y (leave n m l) (next_visit {k} {v} class n' m' last b least) = absurd (l (last, k, v, class, b))
  IsChosen-only before x y (leave n m l) (leave n' m' l') = refl

  abbrev Chosen : List PlanItem → PlanItem → Type 0
  Chosen before item = IsChosen symbols rules visits r before item

  -- the items of `rest` are chosen one after the other, behind those before
  abbrev ChosenFrom : List PlanItem → List PlanItem → Type 0
  ChosenFrom before rest = (place : ℕ) (item : PlanItem) → slice_get rest place ≡ Some item → Chosen (before ++ take place rest) item

  leave-is : (before : List PlanItem) (n : ℕ) → Chosen before (Leave n) → n ≡ segment_after before
  leave-is before n (leave a b c) = refl

  abbrev leaves : List PlanItem → ℕ
  leaves items = count_by is_leave items

  -- what a Leave counts
  abbrev counted : PlanItem → ℕ
  counted x = cond (is_leave x) 1 0

  leaves-more : (xs ys : List PlanItem) → leaves (xs ++ ys) ≡ leaves xs + leaves ys
  leaves-more xs ys = sum_by-append counted xs ys

  leaves-first : (x : PlanItem) (xs : List PlanItem) → leaves (x ∷ xs) ≡ counted x + leaves xs
  leaves-first x xs = sum_by-cons counted x xs

  has-leave : (xs : List PlanItem) (n : ℕ) → Contains xs (Leave n) → 0 < leaves xs
  has-leave [] n m = absurd (contains-nil (Leave n) m)
  has-leave (x ∷ xs) n m = go x (contains-cons x (Leave n) xs m) (has-leave xs n)
    where
      is_first : (y : PlanItem) → y ≡ Leave n → is_leave y ≡ true
      is_first y e = ap is_leave e

      go : (y : PlanItem) → (y ≡ Leave n) ⊎ Contains xs (Leave n) → (Contains xs (Leave n) → 0 < leaves xs) → 0 < leaves (y ∷ xs)
      go (Leave v) h later = let e = leaves-first (Leave v) xs in omega (arith, e)
      go (Eval o) (inl e) later = absurd (true≢false (sym (is_first (Eval o) e)))
      go (Eval o) (inr k) later = later k
      go (Visit j v) (inl e) later = absurd (true≢false (sym (is_first (Visit j v) e)))
      go (Visit j v) (inr k) later = later k

  -- a whole sequence: it ends with the Leave of visit n, which is chosen there
  abbrev Ends : ℕ → List PlanItem → Type 0
  Ends n seq = (front : List PlanItem) × (seq ≡ front ++ Leave n ∷ []) × Chosen front (Leave n)

  leaves-all : (n : ℕ) (seq : List PlanItem) → Ends n seq → leaves seq ≡ n
  leaves-all n seq (front, e, c) = let l = leave-is front n c in let m = leaves-more front (Leave n ∷ []) in let f = ap leaves e in omega (arith, l, m, f)

  no-more : (n : ℕ) (before : List PlanItem) (x : PlanItem) (xs : List PlanItem) → Ends n before → Ends n (before ++ (x ∷ xs)) → ⊥
  no-more n before x xs a b =
      let e = leaves-all n before a in let f = leaves-all n (before ++ (x ∷ xs)) b in let g = leaves-more before (x ∷ xs) in
      let h = has-leave (x ∷ xs) n (last-in-end before x xs b.0 (Leave n) b.1) in omega (arith, e, f, g, h)

  append-nil : (xs : List PlanItem) → xs ++ [] ≡ xs
  append-nil [] = refl
  append-nil (x ∷ xs) = ap (λ l. x ∷ l) (append-nil xs)

  same-rest : (n : ℕ) (before xs ys : List PlanItem) → ChosenFrom before xs → ChosenFrom before ys → Ends n (before ++ xs) → Ends n (before ++ ys) → xs ≡ ys
  same-rest n before [] [] c d a b = refl
  same-rest n before [] (y ∷ ys) c d a b = absurd (no-more n before y ys (subst (λ l. Ends n l) (append-nil before) a) b)
  same-rest n before (x ∷ xs) [] c d a b = absurd (no-more n before x xs (subst (λ l. Ends n l) (append-nil before) b) a)
  same-rest n before (x ∷ xs) (y ∷ ys) c d a b =
      let e : x ≡ y = IsChosen-only (before ++ []) x y (c zero x refl) (d zero y refl) in
      let rest = same-rest n (before ++ x ∷ []) xs ys (on x xs c) (on x ys (subst (λ q. ChosenFrom before (q ∷ ys)) (sym e) d)) (moved x xs a) (moved x ys (subst (λ q. Ends n (before ++ (q ∷ ys))) (sym e) b)) in
      λ i. e i ∷ rest i
    where
      on : (z : PlanItem) (zs : List PlanItem) → ChosenFrom before (z ∷ zs) → ChosenFrom (before ++ z ∷ []) zs
      on z zs h place item e = subst (λ l. Chosen l item) (sym (append_assoc before (z ∷ []) (take place zs))) (h (suc place) item e)

      moved : (z : PlanItem) (zs : List PlanItem) → Ends n (before ++ (z ∷ zs)) → Ends n ((before ++ z ∷ []) ++ zs)
      moved z zs h = subst (λ l. Ends n l) (sym (append_assoc before (z ∷ []) zs)) h

  slice_get-middle : (front : List PlanItem) (x : PlanItem) → slice_get (front ++ x ∷ []) (length front) ≡ Some x
  slice_get-middle [] x = refl
  slice_get-middle (y ∷ front) x = slice_get-middle front x

  take-front : (front : List PlanItem) (x : PlanItem) → take (length front) (front ++ x ∷ []) ≡ front
  take-front [] x = refl
  take-front (y ∷ front) x = ap (λ l. y ∷ l) (take-front front x)

  ends : (seq : List PlanItem) (n : ℕ) → IsConstructed symbols rules visits r seq → (row : List VisitClass) → slice_get visits r.left.0 ≡ Some row → n ≡ length row → Ends n seq
  ends seq n h row e f =
      let other = h.ended in
      let same : length other.1 ≡ n = ap length (held (sym other.2 ∙ e)) ∙ sym f in
      let g : seq ≡ other.0 ++ Leave n ∷ [] = other.3 ∙ ap (λ m. other.0 ++ Leave m ∷ []) same in (
        other.0,
        g,
        subst (λ l. Chosen l (Leave n)) (ap (λ s. take (length other.0) s) g ∙ take-front other.0 (Leave n))
            (h.chosen (length other.0) (Leave n) (ap (λ s. slice_get s (length other.0)) g ∙ slice_get-middle other.0 (Leave n))),
      )

  -- one sequence is constructed
  pub IsConstructed-only : (seq other : List PlanItem) → IsConstructed symbols rules visits r seq → IsConstructed symbols rules visits r other → seq ≡ other
  IsConstructed-only seq other p q =
      let row = p.ended in
      same-rest (length row.1) [] seq other p.chosen q.chosen (ends seq (length row.1) p row.1 row.2 refl) (ends other (length row.1) q row.1 row.2 refl)
