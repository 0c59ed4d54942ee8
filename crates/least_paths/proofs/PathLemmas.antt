-- Distances and paths.
use Rattle.std.specs.Prelude.{slice_get, unwrap_or, option_map, is_some, map, Contains, Bool, false, IsTrue, ◌↔◌, nat_eq}
use Rattle.std.proofs.lemmas.Option.{slice_get-map}
use Rattle.std.proofs.Common.{◌≡◌, ℕ, zero, suc, ◌+◌, ◌<◌, ◌≤◌, ◌⊎◌, inl, inr, List, [], ◌∷◌, ◌++◌, length, Option, Some, None, refl, sym, ap, subst, ◌∙◌, arith}
use Rattle.std.proofs.lemmas.Bool.{cases_lt, eqb-true, eq-eqb}
use Rattle.std.proofs.lemmas.List.Elements.{Contains-append_left, Contains-append_right, Contains-append_cases}
use Rattle.lido_base.proofs.Lists.{contains-here}
use Rattle.lido_base.specs.Reach.{Reaches, IsPath, IsPathFrom, IsNotBehind, IsNoLater, IsLeastPath}
use Rattle.lido_base.proofs.ReachLemmas.{path-Reaches, Reaches-path}
use Rattle.least_paths.specs.Graph.{is_in, row_of, has_edge}
use Rattle.least_paths.specs.Distances.{IsAt, AreDistances}
use Rattle.least_paths.specs.Path.{pred_of, distance, IsLess, IsNearest, IsStep, IsNearer, IsBestBelow}
use Rattle.least_paths.proofs.GraphLemmas.{held, one, in-below, edge-test, test-edge}

pub same-test : (a b : ℕ) → IsTrue (nat_eq a b) → a ≡ b
same-test = eqb-true

pub test-same : (a : ℕ) → IsTrue (nat_eq a a)
test-same a = eq-eqb a a refl

pub one-at : (dist : List (Option ℕ)) (x d e : ℕ) → IsAt dist x d → IsAt dist x e → d ≡ e
one-at dist x d e a b = held (held (sym a ∙ b))

module _ (is_source : ℕ → Bool) (is_edge : ℕ → ℕ → Bool) (dist : List (Option ℕ)) (are : AreDistances is_source is_edge dist) where
  -- no path is shorter than the distance
  pub path-at : (x : ℕ) (rest : List ℕ) → IsPath is_source is_edge (x ∷ rest) → (e : ℕ) × IsAt dist x e × (e ≤ length rest)
  path-at x [] p = (0, are.far.sources x p, omega arith)
  path-at x (y ∷ rest) p = let h = path-at y rest p.1 in let l = h.2 in let g = are.near x y h.0 p.0 h.1 in let k = g.2 in (g.0, g.1, omega arith)

  -- a path is as long
  pub at-path : (d x : ℕ) → IsAt dist x d → (rest : List ℕ) × IsPath is_source is_edge (x ∷ rest) × (length rest ≡ d)
  at-path zero x at = ([], are.far.zero_source x at, refl)
  at-path (suc d) x at = let h = are.far.farther x d at in let r = at-path d h.0 h.2 in (h.0 ∷ r.0, (h.1, r.1), ap suc r.2)

  pub at-Reaches : (x d : ℕ) → IsAt dist x d → Reaches is_source is_edge x
  at-Reaches x d at = let p = at-path d x at in path-Reaches is_source is_edge x p.0 p.1

  pub Reaches-at : (x : ℕ) → Reaches is_source is_edge x → (d : ℕ) × IsAt dist x d
  Reaches-at x r = let p = Reaches-path is_source is_edge x r in let h = path-at x p.0 p.1 in (h.0, h.1)

  -- at a source the walk ends
  pub least-end : (v : ℕ) → IsAt dist v 0 → IsLeastPath (nat_eq v) is_source is_edge (v ∷ [])
  least-end v at = record { is = (test-same v, are.far.zero_source v at); first = later }
    where
      later : (others : List ℕ) → IsPathFrom (nat_eq v) is_source is_edge others → IsNoLater (v ∷ []) others
      later [] p = absurd p
      later (u ∷ []) p = inr (refl, inr (same-test v u p.0, tt))
      later (u ∷ w ∷ more) p = inl (omega arith)

  -- a step to the least of the nearer vertices
  module _ (v w d : ℕ) (at : IsAt dist v (suc d)) (edge : IsTrue (is_edge v w)) (nearer : IsAt dist w d) (least : (x : ℕ) → IsTrue (is_edge v x) → IsAt dist x d → w ≤ x) where
    pub least-step : (rest : List ℕ) → IsLeastPath (nat_eq w) is_source is_edge rest → IsLeastPath (nat_eq v) is_source is_edge (v ∷ rest)
    least-step [] p = absurd p.is
    least-step (w' ∷ r) p = record { is = (test-same v, (subst (λ z. IsTrue (is_edge v z)) same edge, p.is.1)); first = later }
      where
        same : w ≡ w'
        same = same-test w w' p.is.0

        shortest : length r ≤ d
        shortest = let q = at-path d w nearer in by q.0 q.2 (p.first (w ∷ q.0) (test-same w, q.1))
          where
            by : (q : List ℕ) → length q ≡ d → IsNoLater (w' ∷ r) (w ∷ q) → length r ≤ d
            by q e (inl l) = omega arith
            by q e (inr h) = let l = h.0 in omega arith

        later : (others : List ℕ) → IsPathFrom (nat_eq v) is_source is_edge others → IsNoLater (v ∷ w' ∷ r) others
        later [] q = absurd q
        later (u ∷ []) q = absurd (let zero_at = are.far.sources u q.1 in let e = one-at dist v (suc d) 0 at (subst (λ z. IsAt dist z 0) (sym (same-test v u q.0)) zero_at) in omega arith)
        later (u ∷ x ∷ more) q = by (cases_lt (length r) (length more))
          where
            head : v ≡ u
            head = same-test v u q.0

            edge-x : IsTrue (is_edge v x)
            edge-x = subst (λ z. IsTrue (is_edge z x)) (sym head) q.1.0

            far-x : (e : ℕ) × IsAt dist x e × (e ≤ length more)
            far-x = path-at x more q.1.1

            bound : d ≤ far-x.0
            bound = let g = are.near v x far-x.0 edge-x far-x.1 in let e = one-at dist v (suc d) g.0 at g.1 in let l = g.2 in omega arith

            by : (length r < length more) ⊎ (length more ≤ length r) → IsNoLater (v ∷ w' ∷ r) (u ∷ x ∷ more)
            by (inl l) = inl (omega arith)
            by (inr l) = inr ((let h = far-x.2 in omega (arith, bound, shortest, l, h)), inr (head, at_x (cases_lt w' x)))
              where
                at_d : IsAt dist x d
                at_d = let e : far-x.0 ≡ d = let h = far-x.2 in omega (arith, bound, shortest, l, h) in subst (λ z. IsAt dist x z) e far-x.1

                behind : IsNoLater (w' ∷ r) (x ∷ more) → IsNotBehind (w' ∷ r) (x ∷ more)
                behind (inl k) = absurd (omega (arith, l, k))
                behind (inr h) = h.1

                at_x : (w' < x) ⊎ (x ≤ w') → IsNotBehind (w' ∷ r) (x ∷ more)
                at_x (inl less) = inl less
                at_x (inr more_or) = let e : w ≡ x = omega (arith, least x edge-x at_d, more_or, same) in
                    behind (p.first (x ∷ more) (subst (λ z. IsTrue (nat_eq w z)) e (test-same w), q.1.1))

  -- the walk ends where there is no step
  pub walk-end : (v e : ℕ) (o : Option ℕ) → IsAt dist v e → IsStep is_edge dist v e o → ((x : ℕ) → o ≡ Some x → ⊥) → IsLeastPath (nat_eq v) is_source is_edge (v ∷ [])
  walk-end v zero o at step none = least-end v at
  walk-end v (suc d) None at step none = absurd (let f = are.far.farther v d at in step f.0 f.1 f.2)
  walk-end v (suc d) (Some w) at step none = absurd (none w refl)

  -- the best of the starts
  pub least-start : (starts : List Bool) (s : ℕ) (path : List ℕ) → IsBestBelow starts dist (length starts) (Some s) → IsLeastPath (nat_eq s) is_source is_edge path → IsLeastPath (is_in starts) is_source is_edge path
  least-start starts s [] best p = absurd p.is
  least-start starts s (s' ∷ r) best p = record { is = (subst (λ z. IsTrue (is_in starts z)) same best.2, p.is.1); first = later }
    where
      d : ℕ
      d = best.0

      same : s ≡ s'
      same = same-test s s' p.is.0

      shortest : length r ≤ best.0
      shortest = let q = at-path best.0 s best.3 in by q.0 q.2 (p.first (s ∷ q.0) (test-same s, q.1))
        where
          by : (q : List ℕ) → length q ≡ best.0 → IsNoLater (s' ∷ r) (s ∷ q) → length r ≤ best.0
          by q e (inl l) = omega arith
          by q e (inr h) = let l = h.0 in omega arith

      later : (others : List ℕ) → IsPathFrom (is_in starts) is_source is_edge others → IsNoLater (s' ∷ r) others
      later [] q = absurd q
      later (t ∷ more) q = by (best.4 t far-t.0 (in-below starts t q.0) q.0 far-t.1)
        where
          far-t : (e : ℕ) × IsAt dist t e × (e ≤ length more)
          far-t = path-at t more q.1

          by : (best.0 < far-t.0) ⊎ ((best.0 ≡ far-t.0) × (s ≤ t)) → IsNoLater (s' ∷ r) (t ∷ more)
          by (inl less) = inl (let h = far-t.2 in omega (arith, shortest, less, h))
          by (inr (e, le)) = at (cases_lt (length r) (length more)) (cases_lt s t)
            where
              at : (length r < length more) ⊎ (length more ≤ length r) → (s < t) ⊎ (t ≤ s) → IsNoLater (s' ∷ r) (t ∷ more)
              at (inl l) c = inl (omega arith)
              at (inr l) (inl c) = inr ((let h = far-t.2 in omega (arith, shortest, e, l, h)), inl (omega (arith, same, c)))
              at (inr l) (inr c) = let e' : s ≡ t = omega (arith, le, c) in p.first (t ∷ more) (subst (λ z. IsTrue (nat_eq s z)) e' (test-same s), q.1)

  pub no-start : (starts : List Bool) (path : List ℕ) → IsBestBelow starts dist (length starts) None → IsPathFrom (is_in starts) is_source is_edge path → ⊥
  no-start starts [] best q = absurd q
  no-start starts (t ∷ more) best q = let h = path-at t more q.1 in best t h.0 (in-below starts t q.0) q.0 h.1

-- the least so far, with one vertex more
module _ (dist : List (Option ℕ)) (d x : ℕ) where
  pub nearest-new : (least : Option ℕ) (vs : List ℕ) → IsAt dist x d → IsLess x least → IsNearest vs dist d least → IsNearest (vs ++ x ∷ []) dist d (Some x)
  nearest-new least vs at less n = (Contains-append_right vs (x ∷ []) x (contains-here x []), at, λ y m far. elim (Contains-append_cases vs (x ∷ []) y m) [ inl old ↦ by least less n y old far | inr new ↦ let e = one x y new in omega arith ])
    where
      by : (least : Option ℕ) → IsLess x least → IsNearest vs dist d least → (y : ℕ) → Contains vs y → IsAt dist y d → x ≤ y
      by None less n y m far = absurd (n y m far)
      by (Some w) less n y m far = let l = n.2 y m far in omega arith

  pub nearest-old : (least : Option ℕ) (vs : List ℕ) → (IsAt dist x d → IsLess x least → ⊥) → IsNearest vs dist d least → IsNearest (vs ++ x ∷ []) dist d least
  nearest-old None vs not_less n = λ y m far. elim (Contains-append_cases vs (x ∷ []) y m) [ inl old ↦ n y old far | inr new ↦ not_less (subst (λ z. IsAt dist z d) (sym (one x y new)) far) tt ]
  nearest-old (Some w) vs not_less n = (
    Contains-append_left vs (x ∷ []) w n.0,
    n.1,
    λ y m far. elim (Contains-append_cases vs (x ∷ []) y m) [
      | inl old ↦ n.2 y old far
      | inr new ↦ elim (cases_lt x w) [ inl less ↦ absurd (not_less (subst (λ z. IsAt dist z d) (sym (one x y new)) far) less) | inr more ↦ let e = one x y new in omega arith ]
    ],
  )

-- the best start so far, with one vertex more
module _ (starts : List Bool) (dist : List (Option ℕ)) (s : ℕ) where
  pub best-new : (best : Option ℕ) → IsBestBelow starts dist s best → IsTrue (is_in starts s) → IsNearer dist s best → IsBestBelow starts dist (s + 1) (Some s)
  best-new None b is n = (n.0, omega arith, is, n.1, λ t e below in_starts at. elim (cases_lt t s) [ inl less ↦ absurd (b t e less in_starts at) | inr more ↦ let same : t ≡ s = omega arith in inr (one-at dist s n.0 e n.1 (subst (λ z. IsAt dist z e) same at), omega arith) ])
  best-new (Some w) b is n = (
    n.0,
    omega arith,
    is,
    n.1,
    λ t e below in_starts at. elim (cases_lt t s) [
      | inl less ↦ let far = n.2 b.0 b.3 in elim (b.4 t e less in_starts at) [ inl l ↦ inl (omega arith) | inr (same, le) ↦ inl (omega arith) ]
      | inr more ↦ let same : t ≡ s = omega arith in inr (one-at dist s n.0 e n.1 (subst (λ z. IsAt dist z e) same at), omega arith)
    ],
  )

  pub best-old : (best : Option ℕ) → IsBestBelow starts dist s best → (IsTrue (is_in starts s) → IsNearer dist s best → ⊥) → IsBestBelow starts dist (s + 1) best
  best-old None b not_better = λ t e below in_starts at. elim (cases_lt t s) [
    | inl less ↦ b t e less in_starts at
    | inr more ↦ let same : t ≡ s = omega arith in
        not_better (subst (λ z. IsTrue (is_in starts z)) same in_starts) (e, subst (λ z. IsAt dist z e) same at)
  ]
  best-old (Some w) b not_better = (
    b.0,
    (let l = b.1 in omega arith),
    b.2,
    b.3,
    λ t e below in_starts at. elim (cases_lt t s) [
      | inl less ↦ b.4 t e less in_starts at
      | inr more ↦ let same : t ≡ s = omega arith in elim (cases_lt e b.0) [
        | inl nearer ↦ absurd (not_better (subst (λ z. IsTrue (is_in starts z)) same in_starts) (e, subst (λ z. IsAt dist z e) same at, λ f g. let h = one-at dist w b.0 f b.3 g in omega arith))
        | inr no_nearer ↦ elim (cases_lt b.0 e) [ inl l ↦ inl l | inr l ↦ inr (omega arith, (let k = b.1 in omega arith)) ]
      ]
    ],
  )

-- a step goes along an edge to a vertex that is nearer by one
pub step-to : (is_edge : ℕ → ℕ → Bool) (dist : List (Option ℕ)) (v w e : ℕ) (o : Option ℕ) → IsStep is_edge dist v e o → o ≡ Some w
    → (d : ℕ) × (e ≡ suc d) × IsTrue (is_edge v w) × IsAt dist w d × ((x : ℕ) → IsTrue (is_edge v x) → IsAt dist x d → w ≤ x)
step-to is_edge dist v w zero o step is = absurd (let none : o ≡ None = step in cc)
step-to is_edge dist v w (suc d) None step is = absurd (cc)
step-to is_edge dist v w (suc d) (Some u) step is = let same : u ≡ w = held is in (d, refl, subst (λ z. IsTrue (is_edge v z)) same step.0, subst (λ z. IsAt dist z d) same step.1, λ x h at. subst (λ z. z ≤ x) same (step.2 x h at))

pub distance-at : (dist : List (Option ℕ)) (v d : ℕ) → IsAt dist v d → distance dist v ≡ d
distance-at dist v d at = ap (λ o. unwrap_or (unwrap_or o None) 0) at

-- the least nearer one is the step
pub nearest-step : (next : List (List ℕ)) (dist : List (Option ℕ)) (row : List ℕ) (v d e : ℕ) (o p : Option ℕ) → slice_get dist v ≡ Some p → pred_of p ≡ Some d → row ≡ row_of next v → IsNearest row dist d o
    → IsAt dist v e → IsStep (has_edge next) dist v e o
nearest-step next dist row v d e o None at less same n far = absurd (cc)
nearest-step next dist row v d e o (Some zero) at less same n far = absurd (cc)
nearest-step next dist row v d e o (Some (suc f)) at less same n far =
    let eq : e ≡ suc d = held (held (sym far ∙ at)) ∙ ap suc (held less) in
    subst (λ z. IsStep (has_edge next) dist v z o) (sym eq) (by o (subst (λ (r : List ℕ). IsNearest r dist d o) same n))
  where
    by : (o : Option ℕ) → IsNearest (row_of next v) dist d o → IsStep (has_edge next) dist v (suc d) o
    by None n = λ x h a. n x (edge-test next v x h) a
    by (Some w) n = (test-edge next v w n.0, n.1, λ x h a. n.2 x (edge-test next v x h) a)

pub no-step : (is_edge : ℕ → ℕ → Bool) (dist : List (Option ℕ)) (v e : ℕ) (p : Option ℕ) → slice_get dist v ≡ Some p → pred_of p ≡ None → IsAt dist v e → IsStep is_edge dist v e None
no-step is_edge dist v zero p at none far = refl
no-step is_edge dist v (suc d) p at none far = absurd (let same : p ≡ Some (suc d) = held (sym at ∙ far) in let e : pred_of (Some (suc d)) ≡ None = ap pred_of (sym same) ∙ none in cc)

-- the vertices with a distance are those from which a source can be reached
pub reached : (is_source : ℕ → Bool) (is_edge : ℕ → ℕ → Bool) (dist : List (Option ℕ)) (set : List Bool) → AreDistances is_source is_edge dist → set ≡ map is_some dist
    → (x : ℕ) → IsTrue (is_in set x) ↔ Reaches is_source is_edge x
reached is_source is_edge dist set are same x = ((λ h. to (slice_get dist x) refl h), (λ r. let a = Reaches-at is_source is_edge dist are x r in value (Some (Some a.0)) a.1))
  where
    value : (o : Option (Option ℕ)) → slice_get dist x ≡ o → is_in set x ≡ unwrap_or (option_map is_some o) false
    value o e = ap (λ (xs : List Bool). is_in xs x) same ∙ ap (λ q. unwrap_or q false) (slice_get-map is_some dist x) ∙ ap (λ q. unwrap_or (option_map is_some q) false) e

    to : (o : Option (Option ℕ)) → slice_get dist x ≡ o → IsTrue (is_in set x) → Reaches is_source is_edge x
    to None e h = absurd (let v : is_in set x ≡ false = value None e in cc)
    to (Some None) e h = absurd (let v : is_in set x ≡ false = value (Some None) e in cc)
    to (Some (Some d)) e h = at-Reaches is_source is_edge dist are x d e

pub no_true : (b : Bool) → b ≡ false → IsTrue b → ⊥
no_true b e h = absurd (cc)
