-- The first of the shortest cycles, vertex by vertex.
use Rattle.std.specs.Prelude.{slice_get, slice_set, Contains, Bool, true, false, IsTrue, ◌↔◌, nat_eq, nat_lt, unwrap_or, if◌then◌else◌}
use Rattle.std.proofs.Common.{◌≡◌, ℕ, suc, ◌+◌, ◌<◌, ◌≤◌, ◌⊎◌, inl, inr, List, [], ◌∷◌, take, length, Option, Some, None, refl, sym, ap, subst, ◌∙◌, arith}
use Rattle.std.proofs.lemmas.Bool.{cases_lt, ltb-true, ltb-false}
use Rattle.lido_base.specs.Reach.{IsPath, IsPathFrom, IsClosedPath, IsNotBehind, IsNoLater, IsFirstOf, IsLeastPath, IsLeastCycle}
use Rattle.least_paths.specs.Graph.{is_in, has_edge, row_of}
use Rattle.least_paths.specs.Cycle.{items_of, IsFound, IsFrom, IsBelow, shorter_of}
use Rattle.std.specs.Global.{Vec}
use Rattle.std.specs.Prelude.{IfSome, IfNone}
use Rattle.lido_base.proofs.Lists.{contains-here}
use Rattle.least_paths.proofs.GraphLemmas.{edge-test, test-edge, edge-below, one, set-cases, set-same, set-other, next-cases, next-old, next-here}
use Rattle.least_paths.proofs.PathLemmas.{same-test, test-same}

path-test : (a b : ℕ → Bool) (is_edge : ℕ → ℕ → Bool) → ((x : ℕ) → IsTrue (a x) → IsTrue (b x)) → (path : List ℕ) → IsPath a is_edge path → IsPath b is_edge path
path-test a b is_edge to [] p = absurd p
path-test a b is_edge to (x ∷ []) p = to x p
path-test a b is_edge to (x ∷ y ∷ more) p = (p.0, path-test a b is_edge to (y ∷ more) p.1)

module _ (is_edge : ℕ → ℕ → Bool) (s : ℕ) (is_start is_source : ℕ → Bool) (starts : (x : ℕ) → IsTrue (is_start x) ↔ IsTrue (is_edge s x)) (sources : (x : ℕ) → IsTrue (is_source x) ↔ IsTrue (nat_eq s x)) where
  tail-path : (others : List ℕ) → IsFrom is_edge s others → (rest : List ℕ) × (others ≡ s ∷ rest) × IsPathFrom is_start is_source is_edge rest
  tail-path [] h = absurd h
  tail-path (t ∷ []) h = absurd h.1
  tail-path (t ∷ c ∷ more) h = (
    c ∷ more,
    ap (λ z. z ∷ c ∷ more) (sym h.0),
    (
      (starts c).1 (subst (λ z. IsTrue (is_edge z c)) (sym h.0) h.1.0),
      path-test (nat_eq s) is_source is_edge (λ x e. (sources x).1 e) (c ∷ more) (subst (λ z. IsPath (nat_eq z) is_edge (c ∷ more)) (sym h.0) h.1.1),
    ),
  )

  longer : (xs ys : List ℕ) → IsNoLater xs ys → IsNoLater (s ∷ xs) (s ∷ ys)
  longer xs ys (inl l) = inl (omega arith)
  longer xs ys (inr h) = inr (ap suc h.0, inr (refl, h.1))

  pub cycle-from : (path : List ℕ) → IsLeastPath is_start is_source is_edge path → IsFirstOf (IsFrom is_edge s) (s ∷ path)
  cycle-from [] p = absurd p.is
  cycle-from (c ∷ more) p = record {
    is = (refl, ((starts c).0 p.is.0, path-test is_source (nat_eq s) is_edge (λ x e. (sources x).0 e) (c ∷ more) p.is.1));
    first = λ others h. let t = tail-path others h in subst (λ (xs : List ℕ). IsNoLater (s ∷ c ∷ more) xs) (sym t.1) (longer (c ∷ more) t.0 (p.first t.0 t.2));
  }

  pub no-cycle-from : ((path : List ℕ) → IsPathFrom is_start is_source is_edge path → ⊥) → (others : List ℕ) → IsFrom is_edge s others → ⊥
  no-cycle-from none others h = let t = tail-path others h in none t.0 t.2

module _ (is_edge : ℕ → ℕ → Bool) (n : ℕ) where
  pub below-next : (xs : List ℕ) → IsBelow is_edge (n + 1) xs → IsBelow is_edge n xs ⊎ IsFrom is_edge n xs
  below-next [] h = absurd h
  below-next (t ∷ rest) h = elim (cases_lt t n) [ inl l ↦ inl (l, h.1) | inr l ↦ inr ((let below = h.0 in omega arith), h.1) ]

  pub next-below : (xs : List ℕ) → IsBelow is_edge n xs → IsBelow is_edge (n + 1) xs
  next-below [] h = absurd h
  next-below (t ∷ rest) h = ((let l = h.0 in omega arith), h.1)

  pub next-from : (xs : List ℕ) → IsFrom is_edge n xs → IsBelow is_edge (n + 1) xs
  next-from [] h = absurd h
  next-from (t ∷ rest) h = ((let e = h.0 in omega arith), h.1)

  -- a shorter cycle, or the one that was there
  take-found : (best found : List ℕ) → IsFirstOf (IsBelow is_edge n) best → IsFirstOf (IsFrom is_edge n) found → length found < length best → IsFirstOf (IsBelow is_edge (n + 1)) found
  take-found best found b f l = record { is = next-from found f.is; first = λ others h. by others (below-next others h) }
    where
      by : (others : List ℕ) → IsBelow is_edge n others ⊎ IsFrom is_edge n others → IsNoLater found others
      by others (inl o) = elim (b.first others o) [ inl k ↦ inl (omega arith) | inr k ↦ inl (let e = k.0 in omega arith) ]
      by others (inr o) = f.first others o

  keep-best : (best found : List ℕ) → IsFirstOf (IsBelow is_edge n) best → IsFirstOf (IsFrom is_edge n) found → length best ≤ length found → IsFirstOf (IsBelow is_edge (n + 1)) best
  keep-best best found b f l = record { is = next-below best b.is; first = λ others h. by others (below-next others h) }
    where
      behind : (xs ys : List ℕ) → IsBelow is_edge n xs → IsFrom is_edge n ys → IsNotBehind xs ys
      behind [] ys p q = absurd p
      behind (x ∷ xs) [] p q = absurd q
      behind (x ∷ xs) (y ∷ ys) p q = inl (let k = p.0 in let e = q.0 in omega arith)

      from : (others : List ℕ) → IsFrom is_edge n others → (length best < length others) ⊎ (length others ≤ length best) → IsNoLater best others
      from others o (inl k) = inl k
      from others o (inr k) = elim (f.first others o) [ inl m ↦ absurd (omega arith) | inr m ↦ inr ((let e = m.0 in omega arith), behind best others b.is o) ]

      by : (others : List ℕ) → IsBelow is_edge n others ⊎ IsFrom is_edge n others → IsNoLater best others
      by others (inl o) = b.first others o
      by others (inr o) = from others o (cases_lt (length best) (length others))

  pub found-next : (best found : Option (List ℕ)) → IsFound (IsBelow is_edge n) best → IsFound (IsFrom is_edge n) found → IsFound (IsBelow is_edge (n + 1)) (shorter_of best found)
  found-next None None b f = λ xs h. elim (below-next xs h) [ inl o ↦ b xs o | inr o ↦ f xs o ]
  found-next None (Some found) b f = record { is = next-from found f.is; first = λ others h. elim (below-next others h) [ inl o ↦ absurd (b others o) | inr o ↦ f.first others o ] }
  found-next (Some best) None b f = record { is = next-below best b.is; first = λ others h. elim (below-next others h) [ inl o ↦ b.first others o | inr o ↦ absurd (f others o) ] }
  found-next (Some best) (Some found) b f = go (nat_lt (length found) (length best)) refl
    where
      go : (t : Bool) → nat_lt (length found) (length best) ≡ t → IsFound (IsBelow is_edge (n + 1)) (if t then Some found else Some best)
      go true e = take-found best found b f (ltb-true (length found) (length best) e)
      go false e = keep-best best found b f (ltb-false (length found) (length best) e)

-- all cycles begin below the number of vertices
pub all-below : (next : List (List ℕ)) (xs : List ℕ) → IsClosedPath (has_edge next) xs → IsBelow (has_edge next) (length next) xs
all-below next [] h = absurd h
all-below next (s ∷ []) h = absurd h
all-below next (s ∷ c ∷ more) h = (edge-below next s c (edge-test next s c h.0), h)

pub below-all : (next : List (List ℕ)) (n : ℕ) (xs : List ℕ) → IsBelow (has_edge next) n xs → IsClosedPath (has_edge next) xs
below-all next n [] h = absurd h
below-all next n (s ∷ rest) h = h.1

pub least-all : (next : List (List ℕ)) (xs : List ℕ) → IsFound (IsBelow (has_edge next) (length next)) (Some xs) → IsLeastCycle (has_edge next) xs
least-all next xs f = record { is = below-all next (length next) xs f.is; first = λ others h. f.first others (all-below next others h) }

-- the set with one vertex more
pub set-next : (set : List Bool) (row : List ℕ) (k x : ℕ) → slice_get row k ≡ Some x → x < length set → ((y : ℕ) → IsTrue (is_in set y) ↔ Contains (take k row) y)
    → (y : ℕ) → IsTrue (is_in (slice_set set x true) y) ↔ Contains (take (k + 1) row) y
set-next set row k x at below are y = ((λ h. to h), (λ m. elim (next-cases row k x y at m) [ inl old ↦ kept ((are y).1 old) | inr same ↦ subst (λ z. IsTrue (is_in (slice_set set x true) z)) same here ]))
  where
    here : IsTrue (is_in (slice_set set x true) x)
    here = ap (λ o. unwrap_or o false) (set-same set x true below)

    at_y : (o : Option Bool) → slice_get (slice_set set x true) y ≡ o → IsTrue (unwrap_or o false) → Contains (take (k + 1) row) y
    at_y None e h = absurd (cc)
    at_y (Some b) e h = elim (set-cases set x y true b e) [
      | inl same ↦ subst (λ z. Contains (take (k + 1) row) z) (sym same.0) (next-here row k x at)
      | inr old ↦ next-old row k x y at ((are y).0 (ap (λ o. unwrap_or o false) old.1 ∙ h))
    ]

    to : IsTrue (is_in (slice_set set x true) y) → Contains (take (k + 1) row) y
    to h = at_y (slice_get (slice_set set x true) y) refl h

    kept : IsTrue (is_in set y) → IsTrue (is_in (slice_set set x true) y)
    kept h = by (cases_lt y x) (cases_lt x y)
      where
        by : (y < x) ⊎ (x ≤ y) → (x < y) ⊎ (y ≤ x) → IsTrue (is_in (slice_set set x true) y)
        by (inl l) c = ap (λ o. unwrap_or o false) (set-other set x y true (λ e. omega (arith, l, e))) ∙ h
        by (inr l) (inl m) = ap (λ o. unwrap_or o false) (set-other set x y true (λ e. omega (arith, m, e))) ∙ h
        by (inr l) (inr m) = let e : x ≡ y = omega (arith, l, m) in subst (λ z. IsTrue (is_in (slice_set set x true) z)) e here

pub starts-are : (next : List (List ℕ)) (row : List ℕ) (set : List Bool) (s : ℕ) → row ≡ row_of next s → ((x : ℕ) → IsTrue (is_in set x) ↔ Contains row x) → (x : ℕ) → IsTrue (is_in set x) ↔ IsTrue (has_edge next s x)
starts-are next row set s same are x = (
  (λ h. test-edge next s x (subst (λ (r : List ℕ). Contains r x) same ((are x).0 h))),
  (λ h. (are x).1 (subst (λ (r : List ℕ). Contains r x) (sym same) (edge-test next s x h))),
)

pub sources-are : (set : List Bool) (s : ℕ) → ((x : ℕ) → IsTrue (is_in set x) ↔ Contains (s ∷ []) x) → (x : ℕ) → IsTrue (is_in set x) ↔ IsTrue (nat_eq s x)
sources-are set s are x = (
  (λ h. subst (λ z. IsTrue (nat_eq s z)) (one s x ((are x).0 h)) (test-same s)),
  (λ h. (are x).1 (subst (λ z. Contains (s ∷ []) z) (same-test s x h) (contains-here s []))),
)

module _ (next : List (List ℕ)) (n : ℕ) (same : n ≡ length next) where
  pub least-found : (o : Option (Vec ℕ)) → IsFound (IsBelow (has_edge next) n) (items_of o) → IfSome o (λ (c : Vec ℕ). IsLeastCycle (has_edge next) c.items)
  least-found None f = tt
  least-found (Some c) f = least-all next c.items (subst (λ m. IsFound (IsBelow (has_edge next) m) (Some c.items)) same f)

  pub none-found : (o : Option (Vec ℕ)) → IsFound (IsBelow (has_edge next) n) (items_of o) → IfNone o ((cycle : List ℕ) → IsClosedPath (has_edge next) cycle → ⊥)
  none-found None f = λ cycle h. f cycle (subst (λ m. IsBelow (has_edge next) m cycle) (sym same) (all-below next cycle h))
  none-found (Some c) f = tt
