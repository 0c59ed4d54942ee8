-- The state of a search after a vertex is entered, and after it is closed.
use Rattle.std.specs.Option.{option_to_list}
use Rattle.std.specs.Prelude.{IsSome, slice_get, slice_set, sum_by, Contains}
use Rattle.std.proofs.Common.{◌≡◌, ℕ, zero, suc, ◌+◌, ◌-◌, ◌<◌, ◌⊎◌, inl, inr, List, [], ◌∷◌, ◌++◌, take, length, length-append, Option, Some, None, get_or, refl, sym, ap, subst, ◌∙◌, arith}
use Rattle.std.proofs.lemmas.Bool.{cases_lt}
use Rattle.std.proofs.lemmas.List.{length-set, take-append-le}
use Rattle.std.proofs.Math.Seq.{take-length}
use Rattle.std.proofs.lemmas.List.Sums.{sum_by-set}
use Rattle.std.proofs.lemmas.Option.{none-some, get_or_from_slice_get, slice_get-get_or}
use Rattle.flat_grammar.proofs.Lists.{held, slice_get-take, contains-slice_get, slice_get-contains}
use Rattle.partitions.specs.declared.search.Mark.{Mark}
use Rattle.partitions.specs.declared.search.Mark.TheVariants.{Fresh, Entered, Closed}
use Rattle.partitions.specs.Graph.{IsEdge}
use Rattle.partitions.specs.Search.{IsClosed, IsSearch, IsLater, IsBack, weight}
use Rattle.partitions.proofs.PeelingLemmas.{pushed-get, below-length, get-below}

pub set-cases : {X : Type 0} (xs : List X) (v w : ℕ) (y z : X) → slice_get (slice_set xs v y) w ≡ Some z → ((w ≡ v) × (y ≡ z)) ⊎ ((w ≡ v → ⊥) × (slice_get xs w ≡ Some z))
set-cases [] v w y z e = absurd (none-some z e)
set-cases (x ∷ xs) zero zero y z e = inl (refl, held e)
set-cases (x ∷ xs) zero (suc w) y z e = inr ((λ same. absurd (omega arith)), e)
set-cases (x ∷ xs) (suc v) zero y z e = inr ((λ same. absurd (omega arith)), e)
set-cases (x ∷ xs) (suc v) (suc w) y z e = elim (set-cases xs v w y z e) [ inl here ↦ inl (ap suc here.0, here.1) | inr other ↦ inr ((λ same. other.0 (omega arith)), other.1) ]

pub set-same : {X : Type 0} (xs : List X) (v : ℕ) (y z : X) → slice_get xs v ≡ Some z → slice_get (slice_set xs v y) v ≡ Some y
set-same [] v y z e = absurd (none-some z e)
set-same (x ∷ xs) zero y z e = refl
set-same (x ∷ xs) (suc v) y z e = set-same xs v y z e

pub set-other : {X : Type 0} (xs : List X) (v w : ℕ) (y : X) → (w ≡ v → ⊥) → slice_get (slice_set xs v y) w ≡ slice_get xs w
set-other [] v w y e = refl
set-other (x ∷ xs) zero zero y e = absurd (e refl)
set-other (x ∷ xs) zero (suc w) y e = refl
set-other (x ∷ xs) (suc v) zero y e = refl
set-other (x ∷ xs) (suc v) (suc w) y e = set-other xs v w y (λ same. e (ap suc same))

pub set-weight : (marks : List Mark) (v : ℕ) (old new : Mark) → slice_get marks v ≡ Some old → sum_by weight (slice_set marks v new) + weight old ≡ sum_by weight marks + weight new
set-weight marks v old new at = ap (λ (m : Mark). sum_by weight (slice_set marks v new) + weight m) (sym (get_or_from_slice_get marks v old old at)) ∙ sum_by-set weight marks v new old (below-length marks v old at)

pub push-old : {X : Type 0} (xs : List X) (y : X) (i : ℕ) (z : X) → slice_get xs i ≡ Some z → slice_get (xs ++ (y ∷ [])) i ≡ Some z
push-old [] y i z e = absurd (none-some z e)
push-old (x ∷ xs) y zero z e = e
push-old (x ∷ xs) y (suc i) z e = push-old xs y i z e

pub push-new : {X : Type 0} (xs : List X) (y : X) → slice_get (xs ++ (y ∷ [])) (length xs) ≡ Some y
push-new [] y = refl
push-new (x ∷ xs) y = push-new xs y

pub take-get : {X : Type 0} (xs : List X) (n i : ℕ) (z : X) → slice_get (take n xs) i ≡ Some z → (i < n) × (slice_get xs i ≡ Some z)
take-get xs zero i z e = absurd (none-some z e)
take-get [] (suc n) i z e = absurd (none-some z e)
take-get (x ∷ xs) (suc n) zero z e = ((omega arith), e)
take-get (x ∷ xs) (suc n) (suc i) z e = let h = take-get xs n i z e in let l = h.0 in ((omega arith), h.1)

pub get-length : {X : Type 0} (xs ys : List X) → xs ≡ ys → length xs ≡ length ys
get-length xs ys e = ap (λ zs. length zs) e

other_marks : (marks : List Mark) (v w : ℕ) (m n : Mark) → slice_get marks v ≡ Some m → slice_get marks w ≡ Some n → (m ≡ n → ⊥) → w ≡ v → ⊥
other_marks marks v w m n at at' differ e = differ (held (sym at ∙ ap (λ i. slice_get marks i) (sym e) ∙ at'))

-- nothing becomes fresh by a mark that is not
pub later-set : (marks : List Mark) (v : ℕ) (m : Mark) → (m ≡ Fresh → ⊥) → IsLater marks (slice_set marks v m)
later-set marks v m other w at = elim (set-cases marks v w m Fresh at) [ inl here ↦ absurd (other here.1) | inr old ↦ old.1 ]

module _ (preds : List (List ℕ)) (marks : List Mark) (tried path : List ℕ) (count : ℕ) (s : IsSearch preds marks tried path count) (v : ℕ) where
  module _ (fresh : slice_get marks v ≡ Some Fresh) where
    kept : (w n : ℕ) → slice_get marks w ≡ Some (Closed n) → slice_get (slice_set marks v Entered) w ≡ Some (Closed n)
    kept w n at = set-other marks v w Entered (other_marks marks v w Fresh (Closed n) fresh at (λ e. cc)) ∙ at

    back : (w n : ℕ) → slice_get (slice_set marks v Entered) w ≡ Some (Closed n) → slice_get marks w ≡ Some (Closed n)
    back w n at = elim (set-cases marks v w Entered (Closed n) at) [ inl here ↦ absurd (let e = here.1 in cc) | inr old ↦ old.1 ]

    -- a fresh vertex is entered
    pub search-enter : (new : List ℕ) → new ≡ path ++ (v ∷ []) → ((j w : ℕ) → suc j ≡ length path → slice_get path j ≡ Some w → IsEdge preds v w) → IsSearch preds (slice_set marks v Entered) tried new count
    search-enter new pushed edge = subst (λ (p : List ℕ). IsSearch preds (slice_set marks v Entered) tried p count) (sym pushed) (record {
      marks_count = length-set marks v Entered ∙ s.marks_count;
      tried_count = s.tried_count;
      numbered = λ u w n e at. let h = s.numbered u w n e (back w n at) in (h.0, kept u h.0 h.1, h.2);
      below = λ w n at. s.below w n (back w n at);
      entered = λ i w at. elim (pushed-get path v i w at) [
        | inl old ↦ let e = s.entered i w old in set-other marks v w Entered (other_marks marks v w Fresh Entered fresh e (λ e. cc)) ∙ e
        | inr here ↦ subst (λ z. slice_get (slice_set marks v Entered) z ≡ Some Entered) here.1 (set-same marks v Entered Fresh fresh)
      ];
      on_path = λ w at. elim (set-cases marks v w Entered Entered at) [
        | inl here ↦ (length path, push-new path v ∙ ap Some (sym here.0))
        | inr old ↦ let h = s.on_path w old.1 in (h.0, push-old path v h.0 w h.1)
      ];
      linked = λ i u w at next. link i u w (pushed-get path v i w at) (pushed-get path v (suc i) u next);
      apart = λ i j w a b. one i j w (pushed-get path v i w a) (pushed-get path v j w b);
      before = λ w t j u row a b l g. let h = s.before w t j u row a b l g in (h.0, kept u h.0 h.1);
      total = let e = set-weight marks v Fresh Entered fresh in let t = s.total in omega arith;
    })
      where
        link : (i u w : ℕ) → (slice_get path i ≡ Some w) ⊎ ((i ≡ length path) × (v ≡ w)) → (slice_get path (suc i) ≡ Some u) ⊎ ((suc i ≡ length path) × (v ≡ u)) → IsEdge preds u w
        link i u w (inl a) (inl b) = s.linked i u w a b
        link i u w (inl a) (inr b) = subst (λ z. IsEdge preds z w) b.1 (edge i w b.0 a)
        link i u w (inr a) (inl b) = absurd (let l = below-length path (suc i) u b in let e = a.0 in omega arith)
        link i u w (inr a) (inr b) = absurd (let e = a.0 in let f = b.0 in omega arith)

        once : (i w : ℕ) → slice_get path i ≡ Some w → v ≡ w → ⊥
        once i w old e = other_marks marks v w Fresh Entered fresh (s.entered i w old) (λ e. cc) (sym e)

        one : (i j w : ℕ) → (slice_get path i ≡ Some w) ⊎ ((i ≡ length path) × (v ≡ w)) → (slice_get path j ≡ Some w) ⊎ ((j ≡ length path) × (v ≡ w)) → i ≡ j
        one i j w (inl a) (inl b) = s.apart i j w a b
        one i j w (inl a) (inr b) = absurd (once i w a b.1)
        one i j w (inr a) (inl b) = absurd (once j w b a.1)
        one i j w (inr a) (inr b) = a.0 ∙ sym b.0

    pub weight-enter : sum_by weight (slice_set marks v Entered) < sum_by weight marks
    weight-enter = let e = set-weight marks v Fresh Entered fresh in omega arith

  -- the path's last vertex is closed
  module _ (last : (j : ℕ) → suc j ≡ length path → slice_get path j ≡ Some v) (n : ℕ) (longer : suc n ≡ length path) where
    at_last : slice_get marks v ≡ Some Entered
    at_last = s.entered n v (last n longer)

    kept_closed : (w m : ℕ) → slice_get marks w ≡ Some (Closed m) → slice_get (slice_set marks v (Closed count)) w ≡ Some (Closed m)
    kept_closed w m at = set-other marks v w (Closed count) (other_marks marks v w Entered (Closed m) at_last at (λ e. cc)) ∙ at

    same_number : (m : ℕ) → Closed count ≡ Closed m → count ≡ m
    same_number m e = cc

    pub search-close : (new : List ℕ) → new ≡ take n path → ((u : ℕ) → IsEdge preds u v → IsClosed marks u) → IsSearch preds (slice_set marks v (Closed count)) tried new (count + 1)
    search-close new popped closed = subst (λ (p : List ℕ). IsSearch preds (slice_set marks v (Closed count)) tried p (count + 1)) (sym popped) (record {
      marks_count = length-set marks v (Closed count) ∙ s.marks_count;
      tried_count = s.tried_count;
      numbered = λ u w m e at. number u w m e (set-cases marks v w (Closed count) (Closed m) at);
      below = λ w m at. elim (set-cases marks v w (Closed count) (Closed m) at) [ inl here ↦ (let e = same_number m here.1 in omega arith) | inr old ↦ (let l = s.below w m old.1 in omega arith) ];
      entered = λ i w at. let h = take-get path n i w at in let l = h.0 in
          set-other marks v w (Closed count) (λ e. let same = s.apart i n v (h.1 ∙ ap Some e) (last n longer) in absurd (omega arith)) ∙ s.entered i w h.1;
      on_path = λ w at. elim (set-cases marks v w (Closed count) Entered at) [ inl here ↦ absurd (let e = here.1 in cc) | inr old ↦ still w old.0 (s.on_path w old.1) ];
      linked = λ i u w at next. s.linked i u w (take-get path n i w at).1 (take-get path n (suc i) u next).1;
      apart = λ i j w a b. s.apart i j w (take-get path n i w a).1 (take-get path n j w b).1;
      before = λ w t j u row a b l g. let h = s.before w t j u row a b l g in (h.0, kept_closed u h.0 h.1);
      total = let e = set-weight marks v Entered (Closed count) at_last in let t = s.total in omega arith;
    })
      where
        number : (u w m : ℕ) → IsEdge preds u w → ((w ≡ v) × (Closed count ≡ Closed m)) ⊎ ((w ≡ v → ⊥) × (slice_get marks w ≡ Some (Closed m))) → (k : ℕ) × (slice_get (slice_set marks v (Closed count)) u ≡ Some (Closed k)) × (k < m)
        number u w m e (inl here) =
            let h = closed u (subst (λ z. IsEdge preds u z) here.0 e) in
            let l = s.below u h.0 h.1 in
            let same = same_number m here.1 in
            (h.0, kept_closed u h.0 h.1, (omega arith))
        number u w m e (inr old) = let h = s.numbered u w m e old.1 in (h.0, kept_closed u h.0 h.1, h.2)

        still : (w : ℕ) → (w ≡ v → ⊥) → ((i : ℕ) × (slice_get path i ≡ Some w)) → (i : ℕ) × (slice_get (take n path) i ≡ Some w)
        still w other (i, at) = elim (cases_lt i n) [
          | inl l ↦ (i, slice_get-take path n i l ∙ at)
          | inr g ↦ absurd (let b = below-length path i w at in let e : i ≡ n = omega arith in other (held (sym at ∙ ap (λ z. slice_get path z) e ∙ last n longer)))
        ]

    pub weight-close : sum_by weight (slice_set marks v (Closed count)) < sum_by weight marks
    weight-close = let e = set-weight marks v Entered (Closed count) at_last in omega arith

    pub last-below : v < length marks
    last-below = below-length marks v Entered at_last

-- a list without its last item
pub popped : (path new : List ℕ) (o : Option ℕ) (n : ℕ) → path ≡ new ++ option_to_list o → (0 < length path → IsSome o) → suc n ≡ length path → new ≡ take n path
popped path new None n e some longer = absurd (let h = some (omega arith) in cc)
popped path new (Some x) n e some longer =
    let l = get-length path (new ++ (x ∷ [])) e in
    let m = length-append new (x ∷ []) in
    let same : n ≡ length new = omega arith in
    sym (ap (λ xs. take n xs) e ∙ ap (λ k. take k (new ++ (x ∷ []))) same ∙ take-append-le (length new) new (x ∷ []) (omega arith) ∙ take-length new)

module _ (marks : List Mark) (u : ℕ) where
  -- a vertex that is neither closed nor fresh is entered
  pub mark-entered : u < length marks → (IsClosed marks u → ⊥) → (slice_get marks u ≡ Some Fresh → ⊥) → slice_get marks u ≡ Some Entered
  mark-entered below unclosed old = let got = get-below marks u below in go got.0 got.1
    where
      go : (m : Mark) → slice_get marks u ≡ Some m → slice_get marks u ≡ Some Entered
      go Fresh e = absurd (old e)
      go Entered e = e
      go (Closed n) e = absurd (unclosed (n, e))

pub row-at : (preds : List (List ℕ)) (v : ℕ) (r row : List ℕ) → v < length preds → r ≡ get_or preds v r → row ≡ r → slice_get preds v ≡ Some row
row-at preds v r row below is same = slice_get-get_or preds v r below ∙ ap Some (sym is ∙ sym same)

module _ (preds : List (List ℕ)) (marks : List Mark) (tried path : List ℕ) (count : ℕ) (s : IsSearch preds marks tried path count) (v : ℕ)
    (last : (j : ℕ) → suc j ≡ length path → slice_get path j ≡ Some v) (some : 0 < length path) where
  longer : suc (length path - 1) ≡ length path
  longer = omega arith

  pub step-below : v < length preds
  step-below = let b = last-below preds marks tried path count s v last (length path - 1) longer in let c = s.marks_count in omega arith

  pub close-all : (new : List ℕ) (o : Option ℕ) → path ≡ new ++ option_to_list o → (0 < length path → IsSome o) → ((u : ℕ) → IsEdge preds u v → IsClosed marks u) → IsSearch preds (slice_set marks v (Closed count)) tried new (count + 1)
  close-all new o e has closed = search-close preds marks tried path count s v last (length path - 1) longer new (popped path new o (length path - 1) e has longer) closed

  pub close-nearer : sum_by weight (slice_set marks v (Closed count)) < sum_by weight marks
  close-nearer = weight-close preds marks tried path count s v last (length path - 1) longer

  module _ (row : List ℕ) (at : slice_get preds v ≡ Some row) where
    pub row-edge : (j u : ℕ) → slice_get row j ≡ Some u → IsEdge preds u v
    row-edge j u e = (row, at, contains-slice_get row j u e)

    pub edge-row : (u : ℕ) → IsEdge preds u v → (j : ℕ) × (slice_get row j ≡ Some u)
    edge-row u (other, at', m) = slice_get-contains row u (subst (λ (r : List ℕ). Contains r u) (held (sym at' ∙ at)) m)

    pub is-back : (u : ℕ) → slice_get marks u ≡ Some Entered → IsEdge preds u v → IsBack preds path u
    is-back u e edge = let h = s.on_path u e in (h.0, length path - 1, v, h.1, longer, last (length path - 1) longer, edge)

    pub last-edge : (u j w : ℕ) → IsEdge preds u v → suc j ≡ length path → slice_get path j ≡ Some w → IsEdge preds u w
    last-edge u j w edge e at_j = subst (λ z. IsEdge preds u z) (held (sym (last j e) ∙ at_j)) edge
