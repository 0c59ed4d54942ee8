-- Rows of a graph while it is turned, and fronts of lists.
use Rattle.std.specs.Prelude.{Bool, false, IsTrue, unwrap_or, slice_get, slice_set, Contains, ◌↔◌}
use Rattle.std.proofs.Common.{◌≡◌, ℕ, zero, suc, ◌+◌, ◌<◌, ◌≤◌, ◌⊎◌, inl, inr, List, [], ◌∷◌, ◌++◌, take, take_all, length, Option, Some, None, refl, sym, ap, subst, ◌∙◌, arith}
use Rattle.std.proofs.Math.Seq.{take-suc}
use Rattle.std.proofs.lemmas.Bool.{cases_lt}
use Rattle.std.proofs.lemmas.Option.{none-some, slice_get_within, get_or_from_slice_get}
use Rattle.std.proofs.lemmas.List.Elements.{Contains-append_left, Contains-append_right, Contains-append_cases}
use Rattle.lido_base.proofs.Lists.{contains-nil, contains-cons, contains-here, place-below}
use Rattle.lido_base.proofs.TreeLemmas.{contains-test, test-contains}
use Rattle.least_paths.specs.Graph.{IsEdge, row_of, has_edge, is_in}

pub held : {X : Type 0} {x y : X} → Some x ≡ Some y → x ≡ y
held {x = x} e = ap (λ o. unwrap_or o x) e

pub one : {X : Type 0} (x y : X) → Contains (x ∷ []) y → x ≡ y
one x y m = elim (contains-cons x y [] m) [ inl e ↦ e | inr k ↦ absurd (contains-nil y k) ]

pub set-cases : {X : Type 0} (xs : List X) (v w : ℕ) (y z : X) → slice_get (slice_set xs v y) w ≡ Some z → ((w ≡ v) × (y ≡ z)) ⊎ ((w ≡ v → ⊥) × (slice_get xs w ≡ Some z))
set-cases [] v w y z e = absurd (none-some z e)
set-cases (x ∷ xs) zero zero y z e = inl (refl, held e)
set-cases (x ∷ xs) zero (suc w) y z e = inr ((λ same. absurd (omega arith)), e)
set-cases (x ∷ xs) (suc v) zero y z e = inr ((λ same. absurd (omega arith)), e)
set-cases (x ∷ xs) (suc v) (suc w) y z e = elim (set-cases xs v w y z e) [ inl here ↦ inl (ap suc here.0, here.1) | inr other ↦ inr ((λ same. other.0 (omega arith)), other.1) ]

pub set-same : {X : Type 0} (xs : List X) (v : ℕ) (y : X) → v < length xs → slice_get (slice_set xs v y) v ≡ Some y
set-same [] v y l = absurd (omega arith)
set-same (x ∷ xs) zero y l = refl
set-same (x ∷ xs) (suc v) y l = set-same xs v y (omega arith)

pub set-other : {X : Type 0} (xs : List X) (v w : ℕ) (y : X) → (w ≡ v → ⊥) → slice_get (slice_set xs v y) w ≡ slice_get xs w
set-other [] v w y e = refl
set-other (x ∷ xs) zero zero y e = absurd (e refl)
set-other (x ∷ xs) zero (suc w) y e = refl
set-other (x ∷ xs) (suc v) zero y e = refl
set-other (x ∷ xs) (suc v) (suc w) y e = set-other xs v w y (λ same. e (ap suc same))

pub take-next : {X : Type 0} (xs : List X) (k : ℕ) (x : X) → slice_get xs k ≡ Some x → take (k + 1) xs ≡ take k xs ++ x ∷ []
take-next xs k x at =
    let on : k + 1 ≡ suc k = omega arith in
    ap (λ n. take n xs) on ∙ take-suc xs k x (slice_get_within xs k x at) ∙ ap (λ y. take k xs ++ y ∷ []) (get_or_from_slice_get xs k x x at)

-- what is in one item more
pub next-cases : {X : Type 0} (xs : List X) (k : ℕ) (x y : X) → slice_get xs k ≡ Some x → Contains (take (k + 1) xs) y → Contains (take k xs) y ⊎ (x ≡ y)
next-cases xs k x y at m = elim (Contains-append_cases (take k xs) (x ∷ []) y (subst (λ zs. Contains zs y) (take-next xs k x at) m)) [ inl old ↦ inl old | inr new ↦ inr (one x y new) ]

pub next-old : {X : Type 0} (xs : List X) (k : ℕ) (x y : X) → slice_get xs k ≡ Some x → Contains (take k xs) y → Contains (take (k + 1) xs) y
next-old xs k x y at m = subst (λ zs. Contains zs y) (sym (take-next xs k x at)) (Contains-append_left (take k xs) (x ∷ []) y m)

pub next-here : {X : Type 0} (xs : List X) (k : ℕ) (x : X) → slice_get xs k ≡ Some x → Contains (take (k + 1) xs) x
next-here xs k x at = subst (λ zs. Contains zs x) (sym (take-next xs k x at)) (Contains-append_right (take k xs) (x ∷ []) x (contains-here x []))

pub edge-test : (next : List (List ℕ)) (x y : ℕ) → IsTrue (has_edge next x y) → IsEdge next x y
edge-test next x y h = contains-test y (row_of next x) h

pub test-edge : (next : List (List ℕ)) (x y : ℕ) → IsEdge next x y → IsTrue (has_edge next x y)
test-edge next x y m = test-contains y (row_of next x) m

-- an edge leads from a vertex
pub edge-below : (next : List (List ℕ)) (x y : ℕ) → IsEdge next x y → x < length next
edge-below next x y m = go (slice_get next x) refl
  where
    go : (o : Option (List ℕ)) → slice_get next x ≡ o → x < length next
    go None e = absurd (contains-nil y (subst (λ o. Contains (unwrap_or o []) y) e m))
    go (Some row) e = slice_get_within next x row e

pub in-below : (set : List Bool) (x : ℕ) → IsTrue (is_in set x) → x < length set
in-below set x h = go (slice_get set x) refl
  where
    go : (o : Option Bool) → slice_get set x ≡ o → x < length set
    go None e = absurd (let no : is_in set x ≡ false = ap (λ o. unwrap_or o false) e in cc)
    go (Some b) e = slice_get_within set x b e

pub in-at : (set : List Bool) (x : ℕ) (b : Bool) → slice_get set x ≡ Some b → is_in set x ≡ b
in-at set x b e = ap (λ o. unwrap_or o false) e

pub row-at : (next : List (List ℕ)) (x : ℕ) (row : List ℕ) → slice_get next x ≡ Some row → row_of next x ≡ row
row-at next x row e = ap (λ o. unwrap_or o []) e

-- a vertex gets one more edge
pub push-edge : (back : List (List ℕ)) (y x : ℕ) (row : List ℕ) → slice_get back y ≡ Some row → (u v : ℕ)
    → IsEdge (slice_set back y (row ++ x ∷ [])) u v ↔ (IsEdge back u v ⊎ ((y ≡ u) × (v ≡ x)))
push-edge back y x row at u v = (there, back_again)
  where
    new : List (List ℕ)
    new = slice_set back y (row ++ x ∷ [])

    there : IsEdge (slice_set back y (row ++ x ∷ [])) u v → IsEdge back u v ⊎ ((y ≡ u) × (v ≡ x))
    there m = let below = edge-below (slice_set back y (row ++ x ∷ [])) u v m in let got = place-below (slice_set back y (row ++ x ∷ [])) u below in
        by got.0 got.1 (set-cases back y u (row ++ x ∷ []) got.0 got.1) (subst (λ (r : List ℕ). Contains r v) (row-at (slice_set back y (row ++ x ∷ [])) u got.0 got.1) m)
      where
        by : (r : List ℕ) → slice_get (slice_set back y (row ++ x ∷ [])) u ≡ Some r → ((u ≡ y) × (row ++ x ∷ [] ≡ r)) ⊎ ((u ≡ y → ⊥) × (slice_get back u ≡ Some r)) → Contains r v → IsEdge back u v ⊎ ((y ≡ u) × (v ≡ x))
        by r g (inl (same, e)) m = elim (Contains-append_cases row (x ∷ []) v (subst (λ (z : List ℕ). Contains z v) (sym e) m)) [
          | inl old ↦ inl (subst (λ (z : ℕ). Contains (row_of back z) v) (sym same) (subst (λ (z : List ℕ). Contains z v) (sym (row-at back y row at)) old))
          | inr here ↦ inr (sym same, sym (one x v here))
        ]
        by r g (inr (other, e)) m = inl (subst (λ (z : List ℕ). Contains z v) (sym (row-at back u r e)) m)

    back_again : IsEdge back u v ⊎ ((y ≡ u) × (v ≡ x)) → IsEdge (slice_set back y (row ++ x ∷ [])) u v
    back_again (inl m) = by (cases u y)
      where
        cases : (a b : ℕ) → (a ≡ b) ⊎ (a ≡ b → ⊥)
        cases zero zero = inl refl
        cases zero (suc b) = inr (λ e. absurd (omega arith))
        cases (suc a) zero = inr (λ e. absurd (omega arith))
        cases (suc a) (suc b) = elim (cases a b) [ inl e ↦ inl (ap suc e) | inr e ↦ inr (λ s. e (omega arith)) ]

        by : (u ≡ y) ⊎ (u ≡ y → ⊥) → IsEdge (slice_set back y (row ++ x ∷ [])) u v
        by (inl same) = subst (λ (r : List ℕ). Contains r v) (sym (row-at (slice_set back y (row ++ x ∷ [])) u (row ++ x ∷ []) (subst (λ z. slice_get (slice_set back y (row ++ x ∷ [])) z ≡ Some (row ++ x ∷ [])) (sym same) (set-same back y (row ++ x ∷ []) (slice_get_within back y row at)))))
            (Contains-append_left row (x ∷ []) v (subst (λ (r : List ℕ). Contains r v) (row-at back y row at) (subst (λ z. Contains (row_of back z) v) same m)))
        by (inr other) = subst (λ (o : Option (List ℕ)). Contains (unwrap_or o []) v) (sym (set-other back y u (row ++ x ∷ []) other)) m
    back_again (inr (same, e)) = subst (λ (z : ℕ). Contains (row_of (slice_set back y (row ++ x ∷ [])) z) v) same
        (subst (λ (r : List ℕ). Contains r v) (sym (row-at (slice_set back y (row ++ x ∷ [])) y (row ++ x ∷ []) (set-same back y (row ++ x ∷ []) (slice_get_within back y row at))))
        (Contains-append_right row (x ∷ []) v (subst (λ z. Contains (x ∷ []) z) (sym e) (contains-here x []))))

-- edges from one vertex more
pub edges-next : (old mid : List (List ℕ)) (new row : List ℕ) (x k y : ℕ) (ys : List ℕ) → slice_get ys k ≡ Some y → slice_get mid y ≡ Some row → new ≡ row ++ x ∷ []
    → ((u v : ℕ) → IsEdge mid u v ↔ (IsEdge old u v ⊎ (Contains (take k ys) u × (v ≡ x))))
    → (u v : ℕ) → IsEdge (slice_set mid y new) u v ↔ (IsEdge old u v ⊎ (Contains (take (k + 1) ys) u × (v ≡ x)))
edges-next old mid new row x k y ys at got pushed are u v = subst (λ (r : List ℕ). IsEdge (slice_set mid y r) u v ↔ (IsEdge old u v ⊎ (Contains (take (k + 1) ys) u × (v ≡ x)))) (sym pushed) ((λ m. there ((push-edge mid y x row got u v).0 m)), (λ h. (push-edge mid y x row got u v).1 (here h)))
  where
    there : IsEdge mid u v ⊎ ((y ≡ u) × (v ≡ x)) → IsEdge old u v ⊎ (Contains (take (k + 1) ys) u × (v ≡ x))
    there (inl m) = elim ((are u v).0 m) [ inl old ↦ inl old | inr h ↦ inr (next-old ys k y u at h.0, h.1) ]
    there (inr h) = inr (subst (λ z. Contains (take (k + 1) ys) z) h.0 (next-here ys k y at), h.1)

    here : IsEdge old u v ⊎ (Contains (take (k + 1) ys) u × (v ≡ x)) → IsEdge mid u v ⊎ ((y ≡ u) × (v ≡ x))
    here (inl m) = inl ((are u v).1 (inl m))
    here (inr h) = elim (next-cases ys k y u at h.0) [ inl m ↦ inl ((are u v).1 (inr (m, h.1))) | inr e ↦ inr (e, h.1) ]

pub edges-all : (old new : List (List ℕ)) (ys : List ℕ) (x k : ℕ) → length ys ≤ k → ((u v : ℕ) → IsEdge new u v ↔ (IsEdge old u v ⊎ (Contains (take k ys) u × (v ≡ x))))
    → (u v : ℕ) → IsEdge new u v ↔ (IsEdge old u v ⊎ (Contains ys u × (v ≡ x)))
edges-all old new ys x k l are = subst (λ (zs : List ℕ). (u v : ℕ) → IsEdge new u v ↔ (IsEdge old u v ⊎ (Contains zs u × (v ≡ x)))) (take_all k ys l) are

-- the edges from one vertex more, turned
pub turned-next : (next mid new : List (List ℕ)) (row : List ℕ) (k : ℕ) → row ≡ row_of next k → ((x y : ℕ) → IsEdge mid y x ↔ ((x < k) × IsEdge next x y))
    → ((u v : ℕ) → IsEdge new u v ↔ (IsEdge mid u v ⊎ (Contains row u × (v ≡ k)))) → (x y : ℕ) → IsEdge new y x ↔ ((x < k + 1) × IsEdge next x y)
turned-next next mid new row k same are more x y = ((λ m. there ((more y x).0 m)), (λ h. (more y x).1 (here h (cases_lt x k))))
  where
    there : IsEdge mid y x ⊎ (Contains row y × (x ≡ k)) → (x < k + 1) × IsEdge next x y
    there (inl m) = let h = (are x y).0 m in let l = h.0 in (omega arith, h.1)
    there (inr h) = let e = h.1 in (omega arith, subst (λ z. IsEdge next z y) (sym h.1) (subst (λ (r : List ℕ). Contains r y) same h.0))

    here : (x < k + 1) × IsEdge next x y → (x < k) ⊎ (k ≤ x) → IsEdge mid y x ⊎ (Contains row y × (x ≡ k))
    here h (inl l) = inl ((are x y).1 (l, h.1))
    here h (inr l) = let below = h.0 in let e : x ≡ k = omega arith in inr (subst (λ (r : List ℕ). Contains r y) (sym same) (subst (λ z. IsEdge next z y) e h.1), e)

-- the sources up to one vertex more
pub sources-next : (set : List Bool) (k : ℕ) (old new : List ℕ) → ((y : ℕ) → Contains old y ↔ ((y < k) × IsTrue (is_in set y)))
    → ((y : ℕ) → Contains new y ↔ (Contains old y ⊎ ((k ≡ y) × IsTrue (is_in set k)))) → (y : ℕ) → Contains new y ↔ ((y < k + 1) × IsTrue (is_in set y))
sources-next set k old new are more y = ((λ m. there ((more y).0 m)), (λ h. (more y).1 (here h (cases_lt y k))))
  where
    there : Contains old y ⊎ ((k ≡ y) × IsTrue (is_in set k)) → (y < k + 1) × IsTrue (is_in set y)
    there (inl m) = let h = (are y).0 m in let l = h.0 in (omega arith, h.1)
    there (inr h) = let e = h.0 in (omega arith, subst (λ z. IsTrue (is_in set z)) h.0 h.1)

    here : (y < k + 1) × IsTrue (is_in set y) → (y < k) ⊎ (k ≤ y) → Contains old y ⊎ ((k ≡ y) × IsTrue (is_in set k))
    here h (inl l) = inl ((are y).1 (l, h.1))
    here h (inr l) = let below = h.0 in let e : k ≡ y = omega arith in inr (e, subst (λ z. IsTrue (is_in set z)) (sym e) h.1)
