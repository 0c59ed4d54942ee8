-- Lists by places and by elements.
use Rattle.std.specs.Prelude.{Contains, AllPairs, slice_get}
use Rattle.std.specs.List.{slice_index_or}
use Rattle.std.proofs.Common.{◌≡◌, ℕ, zero, suc, ◌<◌, ◌⊎◌, inl, inr, List, [], ◌∷◌, map, take, Some, refl, arith, ap, sym, subst, ◌∙◌, unwrap_or, drop, ◌++◌, length-append, ◌+◌, length, add-one}
use Rattle.std.proofs.Math.Seq.{take-suc}
use Rattle.std.proofs.lemmas.List.Elements.{Contains-append_left, Contains-append_right, Contains-append_cases}
use Rattle.std.proofs.lemmas.Option.{none-some, slice_get-get_or}
use Rattle.std.specs.List.Sorted.{IsStrictlyIncreasing}
use Rattle.std.proofs.lemmas.List.{length-map}
use Rattle.std.proofs.lemmas.List.Kept.{AllPairs-from_increasing}
pub use Rattle.lido_base.proofs.Lists.{contains-nil, contains-cons, contains-here as contains-first, contains-later, contains-place as slice_get-contains, place-contains as contains-slice_get, AllZip-place as AllZip-at}

pub held : {X : Type 0} {x y : X} → Some x ≡ Some y → x ≡ y
held {X} {x} {y} e = ap (λ o. unwrap_or o x) e

-- what stands at a place is among what stands before a later one
pub contains-take : {X : Type 0} (xs : List X) (k n : ℕ) (x : X) → slice_get xs k ≡ Some x → k < n → Contains (take n xs) x
contains-take [] k n x e h = absurd (none-some _ e)
contains-take (y ∷ xs) k zero x e h = absurd (omega (arith, h))
contains-take (y ∷ xs) zero (suc n) x e h = (zero, (omega arith), held e)
contains-take (y ∷ xs) (suc k) (suc n) x e h = contains-later y x (take n xs) (contains-take xs k n x e (omega (arith, h)))

pub slice_get-take : {X : Type 0} (xs : List X) (n i : ℕ) → i < n → slice_get (take n xs) i ≡ slice_get xs i
slice_get-take xs zero i h = absurd (omega (arith, h))
slice_get-take [] (suc n) i h = refl
slice_get-take (x ∷ xs) (suc n) zero h = refl
slice_get-take (x ∷ xs) (suc n) (suc i) h = slice_get-take xs n i (omega (arith, h))

-- Lists of different numbers in ascending order, with the same elements, are the same list.
module _ {X : Type 0} (number : X → ℕ) (numbered : (x y : X) → number x ≡ number y → x ≡ y) where
  -- each element's number is below those of all later ones
  abbrev Ascends : List X → Type 0
  Ascends [] = Unit {0}
  Ascends (x ∷ xs) = ((y : X) → Contains xs y → number x < number y) × Ascends xs

  index-map : (xs : List X) (k : ℕ) (d : X) → slice_index_or (map number xs) k (number d) ≡ number (slice_index_or xs k d)
  index-map [] k d = refl
  index-map (x ∷ xs) zero d = refl
  index-map (x ∷ xs) (suc k) d = index-map xs k d

  ascends-pairs : (xs : List X) → AllPairs (λ x y. x < y) (map number xs) → Ascends xs
  ascends-pairs [] h = tt
  ascends-pairs (x ∷ xs) h = (first, ascends-pairs xs (λ i j d a b. h (suc i) (suc j) d (omega arith) (omega arith)))
    where
      first : (y : X) → Contains xs y → number x < number y
      first y (k, m, e) =
          let l = length-map xs number in
          let p = h zero (suc k) (number y) (omega arith) (omega arith) in
          subst (λ n. number x < n) (index-map xs k y ∙ ap number e) p

  among : (x y : X) (ys : List X) → Contains (y ∷ ys) x → number y < number x → Contains ys x
  among x y ys m h = go (contains-cons y x ys m)
    where
      go : (y ≡ x) ⊎ Contains ys x → Contains ys x
      go (inl e) = let f = ap number e in absurd (omega arith)
      go (inr k) = k

  same-ascending : (xs ys : List X) → Ascends xs → Ascends ys → ((a : X) → Contains xs a → Contains ys a) → ((a : X) → Contains ys a → Contains xs a) → xs ≡ ys
  same-ascending [] [] h k to back = refl
  same-ascending [] (y ∷ ys) h k to back = absurd (contains-nil y (back y (contains-first y ys)))
  same-ascending (x ∷ xs) [] h k to back = absurd (contains-nil x (to x (contains-first x xs)))
  same-ascending (x ∷ xs) (y ∷ ys) h k to back =
      heads (contains-cons y x ys (to x (contains-first x xs))) (contains-cons x y xs (back y (contains-first y ys))) (same-ascending xs ys h.1 k.1)
    where
      whole : x ≡ y → (((a : X) → Contains xs a → Contains ys a) → ((a : X) → Contains ys a → Contains xs a) → xs ≡ ys) → (x ∷ xs) ≡ (y ∷ ys)
      whole e tails = let rest = tails
          (λ a m. among a y ys (to a (contains-later x a xs m)) (subst (λ n. number n < number a) e (h.0 a m)))
          (λ a m. among a x xs (back a (contains-later y a ys m)) (subst (λ n. number n < number a) (sym e) (k.0 a m))) in
          λ i. e i ∷ rest i

      heads : (y ≡ x) ⊎ Contains ys x → (x ≡ y) ⊎ Contains xs y → (((a : X) → Contains xs a → Contains ys a) → ((a : X) → Contains ys a → Contains xs a) → xs ≡ ys) → (x ∷ xs) ≡ (y ∷ ys)
      heads (inl e) _ tails = whole (sym e) tails
      heads (inr m) (inl e) tails = whole e tails
      heads (inr m) (inr n) tails = let p = h.0 y n in let q = k.0 x m in absurd (omega arith)

  pub same-increasing : (xs ys : List X) → IsStrictlyIncreasing (map number xs) → IsStrictlyIncreasing (map number ys) → ((a : X) → Contains xs a → Contains ys a) → ((a : X) → Contains ys a → Contains xs a)
      → xs ≡ ys
  same-increasing xs ys h k to back = same-ascending xs ys (ascends-pairs xs (AllPairs-from_increasing _ h)) (ascends-pairs ys (AllPairs-from_increasing _ k)) to back

-- lists as long as each other with the same elements at the same places are the same
pub same-by-places : {X : Type 0} (xs ys : List X) → length xs ≡ length ys → ((k : ℕ) (x y : X) → slice_get xs k ≡ Some x → slice_get ys k ≡ Some y → x ≡ y) → xs ≡ ys
same-by-places [] [] e h = refl
same-by-places [] (y ∷ ys) e h = absurd (omega (arith, e))
same-by-places (x ∷ xs) [] e h = absurd (omega (arith, e))
same-by-places (x ∷ xs) (y ∷ ys) e h = let first = h zero x y refl refl in let rest = same-by-places xs ys (omega (arith, e)) (λ k a b f g. h (suc k) a b f g) in λ i. first i ∷ rest i

-- the last item of a list stands in each end of it
pub last-in-end : {X : Type 0} (xs : List X) (y : X) (ys front : List X) (x : X) → xs ++ (y ∷ ys) ≡ front ++ x ∷ [] → Contains (y ∷ ys) x
last-in-end [] y ys front x e = subst (λ l. Contains l x) (sym e) (Contains-append_right front (x ∷ []) x (contains-first x []))
last-in-end (a ∷ xs) y ys [] x e =
    let f : length (xs ++ (y ∷ ys)) ≡ 0 = ap (λ l. length (drop 1 l)) e in
    let g : length (xs ++ (y ∷ ys)) ≡ length xs + length (y ∷ ys) = length-append xs (y ∷ ys) in absurd (omega (arith, f, g))
last-in-end (a ∷ xs) y ys (b ∷ front) x e = last-in-end xs y ys front x (ap (λ l. drop 1 l) e)

-- ---- the first elements, one more each time

pub next_take : {X : Type 0} (xs : List X) (k : ℕ) (d : X) → k < length xs → take (k + 1) xs ≡ take k xs ++ slice_index_or xs k d ∷ []
next_take xs k d within = rw add-one (take-suc xs k d within)

pub take_less : {X : Type 0} (xs : List X) (k : ℕ) (d x : X) → k < length xs → Contains (take k xs) x → Contains (take (k + 1) xs) x
take_less xs k d x within h = subst (λ ys. Contains ys x) (sym (next_take xs k d within)) (Contains-append_left (take k xs) (slice_index_or xs k d ∷ []) x h)

pub take_here : {X : Type 0} (xs : List X) (k : ℕ) (d : X) → k < length xs → Contains (take (k + 1) xs) (slice_index_or xs k d)
take_here xs k d within = subst (λ ys. Contains ys (slice_index_or xs k d)) (sym (next_take xs k d within)) (Contains-append_right (take k xs) (slice_index_or xs k d ∷ []) (slice_index_or xs k d) (contains-first (slice_index_or xs k d) []))

pub take_cases : {X : Type 0} (xs : List X) (k : ℕ) (d x : X) → k < length xs → Contains (take (k + 1) xs) x → Contains (take k xs) x ⊎ (slice_index_or xs k d ≡ x)
take_cases xs k d x within h = elim (Contains-append_cases (take k xs) (slice_index_or xs k d ∷ []) x (subst (λ ys. Contains ys x) (next_take xs k d within) h)) [
  | inl earlier ↦ inl earlier
  | inr last ↦ elim (contains-cons (slice_index_or xs k d) x [] last) [ inl same ↦ inr same | inr none ↦ absurd (contains-nil x none) ]
]

pub contains_at : {X : Type 0} (xs : List X) (k : ℕ) (d : X) → k < length xs → Contains xs (slice_index_or xs k d)
contains_at xs k d within = contains-slice_get xs k (slice_index_or xs k d) (slice_get-get_or xs k d within)
