-- Level by level.
use Rattle.std.specs.Prelude.{Contains, Bool, false, IsTrue, ◌==◌, ◌↔◌, replicate, flat_map}
use Rattle.std.proofs.Common.{◌≡◌, ℕ, zero, suc, ◌+◌, ◌<◌, ◌≤◌, ◌⊎◌, inl, inr, List, [], ◌∷◌, ◌++◌, length, Option, None, refl, sym, ap, subst, ◌∙◌, arith}
use Rattle.std.proofs.lemmas.Bool.{cases_lt}
use Rattle.std.proofs.lemmas.List.Sums.{sum_by-cons}
use Rattle.std.proofs.lemmas.List.{length-replicate}
use Rattle.std.proofs.lemmas.Option.{none-some}
use Rattle.lido_base.proofs.Lists.{contains-nil, flat-contains, contains-flat}
use Rattle.least_paths.specs.Graph.{row_of}
use Rattle.least_paths.specs.Distances.{IsAt, IsMarked, IsLevel, AreDistances, open_of, unmarked}
use Rattle.least_paths.proofs.GraphLemmas.{held}

pub replicate-more : (k : ℕ) (xs ys : List (Option ℕ)) → xs ≡ replicate k None → ys ≡ xs ++ None ∷ [] → ys ≡ replicate (k + 1) None
replicate-more k xs ys e f = f ∙ ap (λ (zs : List (Option ℕ)). zs ++ None ∷ []) e ∙ sym (go k) ∙ ap (λ n. let zs : List (Option ℕ) = replicate n None in zs) (let e : suc k ≡ k + 1 = omega arith in e)
  where
    go : (k : ℕ) → (let zs : List (Option ℕ) = replicate (suc k) None in zs) ≡ (let zs : List (Option ℕ) = replicate k None in zs) ++ None ∷ []
    go zero = refl
    go (suc k) = ap (λ (xs : List (Option ℕ)). None ∷ xs) (go k)

pub some-items : (b : Bool) (n : ℕ) → b ≡ (n == 0) → b ≡ false → 0 < n
some-items b zero e f = absurd (cc)
some-items b (suc n) e f = omega arith

nothing-at : (n x e : ℕ) → IsAt (replicate n None) x e → ⊥
nothing-at zero x e at = none-some _ at
nothing-at (suc n) zero e at = absurd (let h = held at in cc)
nothing-at (suc n) (suc x) e at = nothing-at n x e at

all-open : (n : ℕ) → unmarked (replicate n None) ≡ n
all-open zero = refl
all-open (suc n) = sum_by-cons open_of None (replicate n None) ∙ (let h = all-open n in omega arith)

module _ (is_source : ℕ → Bool) (is_edge : ℕ → ℕ → Bool) where
  -- the sources
  module _ (n : ℕ) (dist : List (Option ℕ)) (sources added : List ℕ) (are : (x : ℕ) → Contains sources x ↔ IsTrue (is_source x)) (p : IsMarked (replicate n None) dist sources 0 added) where
    new : (x e : ℕ) → IsAt dist x e → (e ≡ 0) × Contains added x
    new x e at = elim (p.only x e at) [ inl old ↦ absurd (nothing-at n x e old) | inr h ↦ h ]

    pub level-first : IsLevel is_source is_edge dist added 0
    level-first = record {
      far = record {
        sources = λ x s. let h = p.all x ((are x).1 s) in subst (λ e. IsAt dist x e) (new x h.0 h.1).0 h.1;
        zero_source = λ x at. (are x).0 (p.fresh x (new x 0 at).1).2;
        farther = λ x d at. absurd (let h = (new x (suc d) at).0 in omega arith);
      };
      most = λ x e at. let h = (new x e at).0 in omega arith;
      in_front = λ x. ((λ m. (p.fresh x m).1), (λ at. (new x 0 at).1));
      near = λ x y e h at l. absurd (omega arith);
    }

    pub first-bound : unmarked dist + length added ≡ n
    first-bound = p.fewer ∙ all-open n

  -- one level more
  module _ (dist new : List (Option ℕ)) (front added : List ℕ) (d : ℕ) (back : List (List ℕ)) (l : IsLevel is_source is_edge dist front d) (p : IsMarked dist new (flat_map (row_of back) front) (suc d) added)
      (are : (x y : ℕ) → Contains (row_of back y) x ↔ IsTrue (is_edge x y)) where
    most : (x e : ℕ) → IsAt new x e → e ≤ suc d
    most x e at = elim (p.only x e at) [ inl old ↦ let h = l.most x e old in omega arith | inr h ↦ let g = h.0 in omega arith ]

    farther : (x e : ℕ) → IsAt new x (suc e) → (y : ℕ) × IsTrue (is_edge x y) × IsAt new y e
    farther x e at = by (p.only x (suc e) at)
      where
        by : IsAt dist x (suc e) ⊎ ((suc e ≡ suc d) × Contains added x) → (y : ℕ) × IsTrue (is_edge x y) × IsAt new y e
        by (inl old) = let h = l.far.farther x e old in (h.0, h.1, p.kept h.0 e h.2)
        by (inr (same, m)) = let f = contains-flat (row_of back) front x (p.fresh x m).2 in
            let e' : d ≡ e = omega arith in
            (f.0, (are x f.0).0 f.2, subst (λ z. IsAt new f.0 z) e' (p.kept f.0 d ((l.in_front f.0).0 f.1)))

    near : (x y e : ℕ) → IsTrue (is_edge x y) → IsAt new y e → e < suc d → (f : ℕ) × IsAt new x f × (f ≤ suc e)
    near x y e h at below = by (p.only y e at)
      where
        inside : IsAt dist y e → (e < d) ⊎ (d ≤ e) → (f : ℕ) × IsAt new x f × (f ≤ suc e)
        inside old (inl less) = let g = l.near x y e h old less in (g.0, p.kept x g.0 g.1, g.2)
        inside old (inr more) = let same : e ≡ d = omega arith in
            let m = (l.in_front y).1 (subst (λ z. IsAt dist y z) same old) in
            let g = p.all x (flat-contains (row_of back) front y x m ((are x y).1 h)) in
            let top = most x g.0 g.1 in
            (g.0, g.1, omega arith)

        by : IsAt dist y e ⊎ ((e ≡ suc d) × Contains added y) → (f : ℕ) × IsAt new x f × (f ≤ suc e)
        by (inl old) = inside old (cases_lt e d)
        by (inr (same, m)) = absurd (omega arith)

    pub level-next : IsLevel is_source is_edge new added (suc d)
    level-next = record {
      far = record {
        sources = λ x s. p.kept x 0 (l.far.sources x s);
        zero_source = λ x at. elim (p.only x 0 at) [ inl old ↦ l.far.zero_source x old | inr h ↦ absurd (let g = h.0 in omega arith) ];
        farther = farther;
      };
      most = most;
      in_front = λ x. ((λ m. (p.fresh x m).1), (λ at. elim (p.only x (suc d) at) [ inl old ↦ absurd (let h = l.most x (suc d) old in omega arith) | inr h ↦ h.1 ]));
      near = near;
    }

  pub level-done : (dist : List (Option ℕ)) (front : List ℕ) (d : ℕ) → IsLevel is_source is_edge dist front d → front ≡ [] → AreDistances is_source is_edge dist
  level-done dist front d l none = record {
    far = l.far;
    near = λ x y e h at. let top = l.most y e at in elim (cases_lt e d) [
      | inl less ↦ l.near x y e h at less
      | inr more ↦ let same : e ≡ d = omega arith in absurd (contains-nil y (subst (λ (xs : List ℕ). Contains xs y) none ((l.in_front y).1 (subst (λ z. IsAt dist y z) same at))))
    ];
  }

  -- the first level, from distances that nothing has
  pub level-start : (n : ℕ) (first dist : List (Option ℕ)) (sources front : List ℕ) → first ≡ replicate n None → ((x : ℕ) → Contains sources x ↔ IsTrue (is_source x))
      → (more : List ℕ) × (front ≡ more) × IsMarked first dist sources 0 more → IsLevel is_source is_edge dist front 0 × (0 + unmarked dist + length front ≤ n) × (length dist ≡ n)
  level-start n first dist sources front none are (more, same, p) =
      let q = subst (λ (o : List (Option ℕ)). IsMarked o dist sources 0 front) none (subst (λ (xs : List ℕ). IsMarked first dist sources 0 xs) (sym same) p) in
      (level-first n dist sources front are q, (let e = first-bound n dist sources front are q in omega arith), q.count ∙ length-replicate n None)

  -- the next level, with its bound
  pub level-more : (n : ℕ) (dist new : List (Option ℕ)) (front old added : List ℕ) (d e : ℕ) (back : List (List ℕ)) → IsLevel is_source is_edge dist front d → old ≡ front → e ≡ suc d
      → IsMarked dist new (flat_map (row_of back) old) e added → ((x y : ℕ) → Contains (row_of back y) x ↔ IsTrue (is_edge x y))
      → d + unmarked dist + length front ≤ n → 0 < length front
      → IsLevel is_source is_edge new added e × (e + unmarked new + length added ≤ n)
  level-more n dist new front old added d e back l same next p are bound some =
      let q = subst (λ z. IsMarked dist new (flat_map (row_of back) front) z added) next (subst (λ (xs : List ℕ). IsMarked dist new (flat_map (row_of back) xs) e added) same p) in
      (subst (λ z. IsLevel is_source is_edge new added z) (sym next) (level-next dist new front added d back l q are), (let f = q.fewer in omega arith))
