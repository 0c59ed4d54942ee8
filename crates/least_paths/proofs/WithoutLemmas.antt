-- The rows that are kept.
use Rattle.std.specs.Prelude.{slice_get, Contains, Bool, true, false, IsTrue, ◌↔◌, if◌then◌else◌}
use Rattle.std.proofs.Common.{◌≡◌, ℕ, zero, suc, ◌<◌, ◌⊎◌, inl, inr, List, [], ◌∷◌, ◌++◌, length, Some, refl, sym, ap, subst, ◌∙◌, arith}
use Rattle.std.proofs.lemmas.Option.{none-some}
use Rattle.lido_base.proofs.Lists.{contains-nil, place-below}
use Rattle.least_paths.specs.Graph.{is_in, row_of, has_edge}
use Rattle.least_paths.specs.Without.{kept_of}
use Rattle.least_paths.proofs.GraphLemmas.{held, row-at, edge-test, test-edge, edge-below}

pub pushed-get : {X : Type 0} (xs : List X) (y : X) (j : ℕ) (z : X) → slice_get (xs ++ (y ∷ [])) j ≡ Some z → (slice_get xs j ≡ Some z) ⊎ ((j ≡ length xs) × (y ≡ z))
pushed-get [] y zero z e = inr (refl, held e)
pushed-get [] y (suc j) z e = absurd (none-some _ e)
pushed-get (x ∷ xs) y zero z e = inl e
pushed-get (x ∷ xs) y (suc j) z e = elim (pushed-get xs y j z e) [ inl old ↦ inl old | inr new ↦ let d = new.0 in inr ((omega arith), new.1) ]

module _ (next : List (List ℕ)) (closed : List Bool) where
  pub kept-next : (kept new : List (List ℕ)) (k : ℕ) (row : List ℕ) → length kept ≡ k → ((j : ℕ) (r : List ℕ) → slice_get kept j ≡ Some r → r ≡ kept_of next closed j) → new ≡ kept ++ row ∷ [] → row ≡ kept_of next closed k
      → (j : ℕ) (r : List ℕ) → slice_get new j ≡ Some r → r ≡ kept_of next closed j
  kept-next kept new k row count are pushed here j r at = elim (pushed-get kept row j r (subst (λ (xs : List (List ℕ)). slice_get xs j ≡ Some r) pushed at)) [
    | inl old ↦ are j r old
    | inr h ↦ sym h.1 ∙ here ∙ ap (λ n. kept_of next closed n) (let e = h.0 in let same : k ≡ j = omega arith in same)
  ]

  -- the kept row at any vertex
  kept-row : (kept : List (List ℕ)) → length kept ≡ length next → ((j : ℕ) (r : List ℕ) → slice_get kept j ≡ Some r → r ≡ kept_of next closed j) → (x : ℕ) → x < length next → row_of kept x ≡ kept_of next closed x
  kept-row kept count are x below = let h = place-below kept x (omega (arith, count, below)) in row-at kept x h.0 h.1 ∙ are x h.0 h.1

  pub kept-edges : (kept : List (List ℕ)) → length kept ≡ length next → ((j : ℕ) (r : List ℕ) → slice_get kept j ≡ Some r → r ≡ kept_of next closed j)
      → (x y : ℕ) → IsTrue (has_edge kept x y) ↔ (IsTrue (has_edge next x y) × ¬ IsTrue (is_in closed x))
  kept-edges kept count are x y = (to, from)
    where
      in_row : x < length next → (b : Bool) → is_in closed x ≡ b → Contains (row_of kept x) y → IsTrue (has_edge next x y) × ¬ IsTrue (is_in closed x)
      in_row below true e m = absurd (contains-nil y (subst (λ (r : List ℕ). Contains r y) (kept-row kept count are x below ∙ ap (λ b. if b then [] else row_of next x) e) m))
      in_row below false e m = (test-edge next x y (subst (λ (r : List ℕ). Contains r y) (kept-row kept count are x below ∙ ap (λ b. if b then [] else row_of next x) e) m), λ h. absurd (cc))

      to : IsTrue (has_edge kept x y) → IsTrue (has_edge next x y) × ¬ IsTrue (is_in closed x)
      to h = let m = edge-test kept x y h in in_row (omega (arith, count, edge-below kept x y m)) (is_in closed x) refl m

      from : IsTrue (has_edge next x y) × ¬ IsTrue (is_in closed x) → IsTrue (has_edge kept x y)
      from (h, is_open) = let m = edge-test next x y h in by (edge-below next x y m) (is_in closed x) refl m
        where
          by : x < length next → (b : Bool) → is_in closed x ≡ b → Contains (row_of next x) y → IsTrue (has_edge kept x y)
          by below true e m = absurd (is_open e)
          by below false e m = test-edge kept x y (subst (λ (r : List ℕ). Contains r y) (sym (kept-row kept count are x below ∙ ap (λ b. if b then [] else row_of next x) e)) m)
