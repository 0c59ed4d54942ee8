-- The predecessors of vertices, list by list.
use Rattle.std.specs.Prelude.{IsBitSet, Contains, slice_get, sum_by, ◌↔◌}
use Rattle.std.proofs.Common.{◌≡◌, ℕ, zero, suc, ◌+◌, ◌<◌, ◌≤◌, ◌⊎◌, inl, inr, List, [], ◌∷◌, ◌++◌, take, length, Some, sym, ap, subst, ◌∙◌, arith}
use Rattle.std.proofs.lemmas.Bool.{cases_lt}
use Rattle.std.proofs.lemmas.List.Elements.{Contains-append_left}
use Rattle.std.proofs.lemmas.List.Sums.{sum_by-cons}
use Rattle.std.proofs.lemmas.Option.{none-some}
use Rattle.lido_base.specs.declared.ids.SymId.{SymId}
use Rattle.flat_grammar.specs.declared.flat.Occ.{Occ}
use Rattle.flat_grammar.specs.declared.flat.FlatRule.{FlatRule}
use Rattle.flat_grammar.specs.Rules.{symbol_at}
use Rattle.flat_grammar.proofs.Lists.{held, contains-slice_get, slice_get-contains}
use Rattle.partitions.specs.Symbols.{rows_at}
use Rattle.partitions.specs.Graph.{IsEdge}
use Rattle.partitions.specs.RuleGraph.{IsComing, IsNumberOf, IsComingAt, IsPairAt, IsAmongAt}
use Rattle.partitions.proofs.PeelingLemmas.{pushed-get, below-length, get-below}
use Rattle.partitions.proofs.ClassesLemmas.{pushed-contains, contains-pushed}

pub sum-take : {X : Type 0} (f : X → ℕ) (xs : List X) (k : ℕ) (x : X) → slice_get xs k ≡ Some x → sum_by f (take (suc k) xs) ≡ sum_by f (take k xs) + f x
sum-take f [] k x e = absurd (none-some x e)
sum-take f (y ∷ xs) zero x e = sum_by-cons f y [] ∙ (let s : f y ≡ f x = ap f (held e) in omega arith)
sum-take f (y ∷ xs) (suc k) x e = sum_by-cons f y (take (suc k) xs) ∙ (let h = sum-take f xs k x e in let g = sum_by-cons f y (take k xs) in omega arith)

module _ (ids later : List ℕ) (start b : ℕ) where
  -- the attributes below n that come before b
  abbrev pub AreComing : ℕ → List ℕ → Type 0
  AreComing n row = (u : ℕ) → Contains row u ↔ ((a : ℕ) × (a < n) × (u ≡ start + a) × IsComing ids later a b)

  pub coming-push : (n : ℕ) (row new : List ℕ) (u : ℕ) → AreComing n row → u ≡ start + n → new ≡ row ++ (u ∷ []) → IsComing ids later n b → AreComing (n + 1) new
  coming-push n row new u are e pushed here = subst (λ (xs : List ℕ). AreComing (n + 1) xs) (sym pushed) (λ w. (
    (λ m. elim (pushed-contains row u w m) [
      | inl old ↦ (let h = (are w).0 old in let l = h.1 in (h.0, (omega arith), h.2, h.3))
      | inr same ↦ (n, (omega arith), sym same ∙ e, here)
    ]),
    (λ (a, l, at, c). elim (cases_lt a n) [
      | inl below ↦ Contains-append_left row (u ∷ []) w ((are w).1 (a, below, at, c))
      | inr g ↦ subst (λ z. Contains (row ++ (u ∷ [])) z) (let same : a ≡ n = omega arith in omega arith) (contains-pushed row u)
    ]),
  ))

  pub coming-skip : (n : ℕ) (row new : List ℕ) → AreComing n row → new ≡ row → (IsComing ids later n b → ⊥) → AreComing (n + 1) new
  coming-skip n row new are same none = subst (λ (xs : List ℕ). AreComing (n + 1) xs) (sym same) (λ w. (
    (λ m. let h = (are w).0 m in let l = h.1 in (h.0, (omega arith), h.2, h.3)),
    (λ (a, l, at, c). elim (cases_lt a n) [
      | inl below ↦ (are w).1 (a, below, at, c)
      | inr g ↦ absurd (none (let e : a ≡ n = omega arith in subst (λ z. IsComing ids later z b) e c))
    ]),
  ))

  pub coming-at : (n row more : ℕ) → slice_get ids n ≡ Some row → slice_get later n ≡ Some more → IsBitSet row b ⊎ IsBitSet more b → IsComing ids later n b
  coming-at n row more at at' (inl bit) = inl (row, at, bit)
  coming-at n row more at at' (inr bit) = inr (more, at', bit)

  pub coming-of : (n row more : ℕ) → slice_get ids n ≡ Some row → slice_get later n ≡ Some more → IsComing ids later n b → IsBitSet row b ⊎ IsBitSet more b
  coming-of n row more at at' (inl (other, got, bit)) = inl (subst (λ r. IsBitSet r b) (held (sym got ∙ at)) bit)
  coming-of n row more at at' (inr (other, got, bit)) = inr (subst (λ r. IsBitSet r b) (held (sym got ∙ at')) bit)

  pub coming-below : length ids ≡ length later → (a : ℕ) → IsComing ids later a b → a < length ids
  coming-below each a (inl (row, at, bit)) = below-length ids a row at
  coming-below each a (inr (row, at, bit)) = let l = below-length later a row at in omega arith

pub coming-is : (r : FlatRule) (ids later : List (List ℕ)) (starts : List ℕ) (o : Occ) (x : SymId) (start : ℕ) (row ids_x later_x : List ℕ) → symbol_at r o.occ ≡ Some x → slice_get starts o.occ ≡ Some start
    → ids_x ≡ rows_at ids x.0 → later_x ≡ rows_at later x.0 → ((u : ℕ) → Contains row u ↔ ((a : ℕ) × (u ≡ start + a) × IsComing ids_x later_x a o.attr.0))
    → (u : ℕ) → Contains row u ↔ IsComingAt r ids later starts o u
coming-is r ids later starts o x start row ids_x later_x at started e f are u = (
  (λ m. let h = (are u).0 m in (x, at, start, started, h.0, h.1, subst (λ (xs : List ℕ). IsComing xs (rows_at later x.0) h.0 o.attr.0) e (subst (λ (xs : List ℕ). IsComing ids_x xs h.0 o.attr.0) f h.2))),
  (λ (y, at', start', started', a, n, c). let same : y ≡ x = held (sym at' ∙ at) in let same_start : start' ≡ start = held (sym started' ∙ started) in
      (are u).1 (
        a,
        (n ∙ omega arith),
        subst (λ (xs : List ℕ). IsComing xs later_x a o.attr.0) (sym e) (subst (λ (xs : List ℕ). IsComing (rows_at ids x.0) xs a o.attr.0) (sym f)
            (subst (λ (z : SymId). IsComing (rows_at ids z.0) (rows_at later z.0) a o.attr.0) same c)),
      )),
)

module _ (r : FlatRule) (ids later : List (List ℕ)) (starts : List ℕ) (occs : List Occ) where
  -- each list has the predecessors at its vertex's occurrence
  abbrev pub ArePredsSoFar : List (List ℕ) → Type 0
  ArePredsSoFar preds = (v : ℕ) (row : List ℕ) → slice_get preds v ≡ Some row → (o : Occ) × (slice_get occs v ≡ Some o) × ((u : ℕ) → Contains row u ↔ IsComingAt r ids later starts o u)

  pub preds-push : (i : ℕ) (preds new : List (List ℕ)) (row : List ℕ) (o : Occ) → ArePredsSoFar preds → length preds ≡ i → slice_get occs i ≡ Some o → new ≡ preds ++ (row ∷ []) → ((u : ℕ) → Contains row u ↔ IsComingAt r ids later starts o u) → ArePredsSoFar new
  preds-push i preds new row o are count at pushed here v other got = elim (pushed-get preds row v other (subst (λ (xs : List (List ℕ)). slice_get xs v ≡ Some other) pushed got)) [
    | inl old ↦ are v other old
    | inr new ↦ (o, ap (λ k. slice_get occs k) (new.0 ∙ count) ∙ at, λ u. subst (λ (z : List ℕ). Contains z u ↔ IsComingAt r ids later starts o u) new.1 (here u))
  ]

  pub preds-edges : (preds : List (List ℕ)) → ArePredsSoFar preds → length preds ≡ length occs → (u v : ℕ) → IsEdge preds u v ↔ ((o : Occ) × (slice_get occs v ≡ Some o) × IsComingAt r ids later starts o u)
  preds-edges preds are count u v = (
    (λ (row, at, m). let h = are v row at in (h.0, h.1, (h.2 u).0 m)),
    (λ (o, at, c). let l = below-length occs v o at in let got = get-below preds v (omega arith) in let h = are v got.0 got.1 in
        (got.0, got.1, (h.2 u).1 (subst (λ (p : Occ). IsComingAt r ids later starts p u) (held (sym at ∙ h.1)) c))),
  )

-- Edges that are added for each item of a list.
module _ {X : Type 0} (R : X → ℕ → ℕ → Type 0) (xs : List X) (old : List (List ℕ)) where
  -- those of the first items are added
  abbrev pub AreAdded : ℕ → List (List ℕ) → Type 0
  AreAdded i preds = (u v : ℕ) → IsEdge preds u v ↔ (IsEdge old u v ⊎ ((j : ℕ) × (x : X) × (j < i) × (slice_get xs j ≡ Some x) × R x u v))

  pub added-push : (i : ℕ) (preds new : List (List ℕ)) (x : X) → AreAdded i preds → slice_get xs i ≡ Some x → ((u v : ℕ) → IsEdge new u v ↔ (IsEdge preds u v ⊎ R x u v)) → AreAdded (i + 1) new
  added-push i preds new x are at added u v = (fore, back)
    where
      fore : IsEdge new u v → IsEdge old u v ⊎ ((j : ℕ) × (y : X) × (j < i + 1) × (slice_get xs j ≡ Some y) × R y u v)
      fore edge = elim ((added u v).0 edge) [
        | inl before ↦ elim ((are u v).0 before) [ inl first ↦ inl first | inr h ↦ inr (let l = h.2 in (h.0, h.1, (omega arith), h.3, h.4)) ]
        | inr here ↦ inr (i, x, (omega arith), at, here)
      ]

      back : IsEdge old u v ⊎ ((j : ℕ) × (y : X) × (j < i + 1) × (slice_get xs j ≡ Some y) × R y u v) → IsEdge new u v
      back (inl first) = (added u v).1 (inl ((are u v).1 (inl first)))
      back (inr (j, y, l, got, h)) = elim (cases_lt j i) [
        | inl below ↦ (added u v).1 (inl ((are u v).1 (inr (j, y, below, got, h))))
        | inr g ↦ let same : j ≡ i = omega arith in (added u v).1 (inr (subst (λ (z : X). R z u v) (held (sym got ∙ ap (λ k. slice_get xs k) same ∙ at)) h))
      ]

  pub added-all : (i : ℕ) (preds : List (List ℕ)) → AreAdded i preds → length xs ≤ i → (u v : ℕ) → IsEdge preds u v ↔ (IsEdge old u v ⊎ ((x : X) × Contains xs x × R x u v))
  added-all i preds are all u v = (
    (λ edge. elim ((are u v).0 edge) [ inl first ↦ inl first | inr h ↦ inr (h.1, contains-slice_get xs h.0 h.1 h.3, h.4) ]),
    (λ either. elim either [
      | inl first ↦ (are u v).1 (inl first)
      | inr h ↦ (are u v).1 (inr (let got = slice_get-contains xs h.0 h.1 in let l = below-length xs got.0 h.0 got.1 in (got.0, h.0, (omega arith), got.1, h.2)))
    ]),
  )

same_number : (starts : List ℕ) (o : Occ) (m n : ℕ) → IsNumberOf starts o m → IsNumberOf starts o n → m ≡ n
same_number starts o m n (s, at, e) (t, at', f) = let same : s ≡ t = held (sym at ∙ at') in omega arith

-- an attribute occurrence has one number
pub pair-is : (starts : List ℕ) (o p : Occ) (u v : ℕ) → IsNumberOf starts o u → IsNumberOf starts p v → (a b : ℕ) → ((a ≡ u) × (b ≡ v)) ↔ IsPairAt starts o p a b
pair-is starts o p u v from to a b = (
  (λ h. (subst (λ n. IsNumberOf starts o n) (sym h.0) from, subst (λ n. IsNumberOf starts p n) (sym h.1) to)),
  (λ h. (same_number starts o a u h.0 from, same_number starts p b v h.1 to)),
)

pub or-same : {A B C : Type 0} → B ↔ C → (A ⊎ B) ↔ (A ⊎ C)
or-same f = (λ either. elim either [ inl a ↦ inl a | inr b ↦ inr (f.0 b) ], λ either. elim either [ inl a ↦ inl a | inr c ↦ inr (f.1 c) ])

-- the same attribute occurrences in another list
pub same-members : (starts : List ℕ) (xs ys zs : List Occ) (to : Occ) → xs ≡ ys → ((o : Occ) → Contains ys o ↔ Contains zs o) → (u v : ℕ) → IsAmongAt starts xs to u v ↔ IsAmongAt starts zs to u v
same-members starts xs ys zs to e same u v = (
  (λ (o, m, h). (o, (same o).0 (subst (λ (l : List Occ). Contains l o) e m), h)),
  (λ (o, m, h). (o, subst (λ (l : List Occ). Contains l o) (sym e) ((same o).1 m), h)),
)
