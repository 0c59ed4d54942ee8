-- Distances that are given to vertices.
use Rattle.std.specs.Prelude.{slice_get, slice_set, sum_by, Contains, flat_map, is_some, Bool, true, false, not}
use Rattle.std.proofs.Common.{◌≡◌, ℕ, ◌+◌, inl, inr, List, [], ◌∷◌, ◌++◌, take, length, length-append, Option, Some, None, sym, ap, subst, ◌∙◌, arith}
use Rattle.std.proofs.lemmas.List.{length-set, append-nil, append_assoc}
use Rattle.std.proofs.lemmas.List.Concat.{flat_map-cons}
use Rattle.std.proofs.lemmas.Grind.{flat_map-append}
use Rattle.std.proofs.lemmas.List.Sums.{sum_by-set}
use Rattle.std.proofs.lemmas.List.Elements.{Contains-append_left, Contains-append_right, Contains-append_cases}
use Rattle.std.proofs.lemmas.Option.{slice_get_within, get_or_from_slice_get}
use Rattle.lido_base.proofs.Lists.{contains-nil, contains-here, place-below}
use Rattle.least_paths.specs.Distances.{IsAt, IsMarked, open_of}
use Rattle.least_paths.proofs.GraphLemmas.{held, one, set-cases, set-same, set-other, take-next}

-- nothing is given
pub marked-none : (old : List (Option ℕ)) (d : ℕ) → IsMarked old old [] d []
marked-none old d = record {
  count = λ i. length old;
  kept = λ x e at. at;
  only = λ x e at. inl at;
  fresh = λ x m. absurd (contains-nil x m);
  all = λ x m. absurd (contains-nil x m);
  fewer = omega arith;
}

-- the vertex has a distance
pub marked-old : (old : List (Option ℕ)) (x e d : ℕ) → IsAt old x e → IsMarked old old (x ∷ []) d []
marked-old old x e d at = record {
  count = λ i. length old;
  kept = λ y f g. g;
  only = λ y f g. inl g;
  fresh = λ y m. absurd (contains-nil y m);
  all = λ y m. subst (λ z. (f : ℕ) × IsAt old z f) (one x y m) (e, at);
  fewer = omega arith;
}

-- the vertex gets its distance
pub marked-new : (old : List (Option ℕ)) (x d : ℕ) → slice_get old x ≡ Some None → IsMarked old (slice_set old x (Some d)) (x ∷ []) d (x ∷ [])
marked-new old x d none = record {
  count = length-set old x (Some d);
  kept = λ y e at. set-other old x y (Some d) (λ same. absurd (let bare : slice_get old y ≡ Some None = subst (λ z. slice_get old z ≡ Some None) (sym same) none in cc)) ∙ at;
  only = λ y e at. elim (set-cases old x y (Some d) (Some e) at) [ inl h ↦ inr (sym (held h.1), subst (λ z. Contains (x ∷ []) z) (sym h.0) (contains-here x [])) | inr h ↦ inl h.1 ];
  fresh = λ y m. subst (λ z. (slice_get old z ≡ Some None) × IsAt (slice_set old x (Some d)) z d × Contains (x ∷ []) z) (one x y m) (none, here, contains-here x []);
  all = λ y m. subst (λ z. (f : ℕ) × IsAt (slice_set old x (Some d)) z f) (one x y m) (d, here);
  fewer = let e : sum_by open_of (slice_set old x (Some d)) + open_of None ≡ sum_by open_of old + open_of (Some d) = ap (λ m. sum_by open_of (slice_set old x (Some d)) + open_of m) (sym (get_or_from_slice_get old x None None none)) ∙ sum_by-set open_of old x (Some d) None (slice_get_within old x None none) in omega arith;
}
  where
    here : IsAt (slice_set old x (Some d)) x d
    here = set-same old x (Some d) (slice_get_within old x None none)

-- one list of vertices, and then another
pub marked-step : (a b c : List (Option ℕ)) (vs ws : List ℕ) (d : ℕ) (m n : List ℕ) → IsMarked a b vs d m → IsMarked b c ws d n → IsMarked a c (vs ++ ws) d (m ++ n)
marked-step a b c vs ws d m n p q = record {
  count = q.count ∙ p.count;
  kept = λ x e at. q.kept x e (p.kept x e at);
  only = λ x e at. elim (q.only x e at) [
    | inl h ↦ elim (p.only x e h) [ inl k ↦ inl k | inr k ↦ inr (k.0, Contains-append_left m n x k.1) ]
    | inr h ↦ inr (h.0, Contains-append_right m n x h.1)
  ];
  fresh = λ x h. elim (Contains-append_cases m n x h) [
    | inl k ↦ let f = p.fresh x k in (f.0, q.kept x d f.1, Contains-append_left vs ws x f.2)
    | inr k ↦ let f = q.fresh x k in (opened x f.0, f.1, Contains-append_right vs ws x f.2)
  ];
  all = λ x h. elim (Contains-append_cases vs ws x h) [ inl k ↦ let f = p.all x k in (f.0, q.kept x f.0 f.1) | inr k ↦ q.all x k ];
  fewer = omega (arith, length-append m n, p.fewer, q.fewer);
}
  where
    opened : (x : ℕ) → slice_get b x ≡ Some None → slice_get a x ≡ Some None
    opened x at = let l = slice_get_within b x None at in let h = place-below a x (omega (arith, p.count)) in by h.0 h.1
      where
        by : (o : Option ℕ) → slice_get a x ≡ Some o → slice_get a x ≡ Some None
        by None e = e
        by (Some e) f = absurd (let k = p.kept x e f in cc)

pub marked-at : (old : List (Option ℕ)) (x d : ℕ) (o : Option ℕ) → slice_get old x ≡ Some o → is_some o ≡ true → IsMarked old old (x ∷ []) d []
marked-at old x d None at h = absurd (cc)
marked-at old x d (Some e) at h = marked-old old x e d at

pub not_both : (b : Bool) → b ≡ true → true ≡ not b → ⊥
not_both true h g = cc
not_both false h g = cc

-- one vertex more
pub marked-push : (a b c : List (Option ℕ)) (row : List ℕ) (k x d : ℕ) (first mid last : List ℕ) → slice_get row k ≡ Some x
    → (more : List ℕ) × (mid ≡ first ++ more) × IsMarked a b (take k row) d more → (more : List ℕ) × (last ≡ mid ++ more) × IsMarked b c (x ∷ []) d more
    → (more : List ℕ) × (last ≡ first ++ more) × IsMarked a c (take (k + 1) row) d more
marked-push a b c row k x d first mid last at i m = (
  i.0 ++ m.0,
  m.1 ∙ ap (λ xs. xs ++ m.0) i.1 ∙ append_assoc first i.0 m.0,
  subst (λ (vs : List ℕ). IsMarked a c vs d (i.0 ++ m.0)) (sym (take-next row k x at)) (marked-step a b c (take k row) (x ∷ []) d i.0 m.0 i.2 m.2),
)

-- one row more
pub marked-row : (a b c : List (Option ℕ)) (f : ℕ → List ℕ) (front : List ℕ) (k y d : ℕ) (row added new : List ℕ) → slice_get front k ≡ Some y → row ≡ f y
    → IsMarked a b (flat_map f (take k front)) d added → (more : List ℕ) × (new ≡ added ++ more) × IsMarked b c row d more → IsMarked a c (flat_map f (take (k + 1) front)) d new
marked-row a b c f front k y d row added new at same i m =
    subst (λ (xs : List ℕ). IsMarked a c (flat_map f (take (k + 1) front)) d xs) (sym m.1)
    (subst (λ (vs : List ℕ). IsMarked a c vs d (added ++ m.0)) (sym all)
    (marked-step a b c (flat_map f (take k front)) (f y) d added m.0 i (subst (λ (vs : List ℕ). IsMarked b c vs d m.0) same m.2)))
  where
    all : flat_map f (take (k + 1) front) ≡ flat_map f (take k front) ++ f y
    all = ap (λ xs. flat_map f xs) (take-next front k y at) ∙ flat_map-append f (take k front) (y ∷ []) ∙ ap (λ xs. flat_map f (take k front) ++ xs) (flat_map-cons f y [] ∙ append-nil (f y))
