-- What stands at each place of a list.
use Rattle.std.specs.Prelude.{slice_get, All, AllPairs, replicate}
use Rattle.std.proofs.Common.{◌≡◌, ℕ, zero, suc, ◌+◌, ◌<◌, ◌⊎◌, inl, inr, List, [], ◌∷◌, ◌++◌, length, Some, refl, sym, ap, subst, ◌∙◌, arith, length-append}
use Rattle.std.proofs.lemmas.Option.{none-some}
use Rattle.std.proofs.lemmas.List.{replicate-append-replicate}
use Rattle.std.proofs.lemmas.List.Kept.{AllPairs-cons}
use Rattle.std.proofs.lemmas.List.Elements.{All-cons, All-nil}
use Rattle.flat_grammar.proofs.Lists.{held}
use Rattle.large_grammars.specs.Sizes.{EachAt}

pub below-length : {X : Type 0} (xs : List X) (k : ℕ) (x : X) → slice_get xs k ≡ Some x → k < length xs
below-length [] k x e = absurd (none-some _ e)
below-length (y ∷ xs) zero x e = omega arith
below-length (y ∷ xs) (suc k) x e = let p = below-length xs k x e in omega arith

pub get-below : {X : Type 0} (xs : List X) (k : ℕ) → k < length xs → (x : X) × (slice_get xs k ≡ Some x)
get-below [] k h = absurd (omega arith)
get-below (x ∷ xs) zero h = (x, refl)
get-below (x ∷ xs) (suc k) h = get-below xs k (omega arith)

-- what stands at a place of a list with one more item
pub pushed-get : {X : Type 0} (xs : List X) (y : X) (j : ℕ) (z : X) → slice_get (xs ++ (y ∷ [])) j ≡ Some z → (slice_get xs j ≡ Some z) ⊎ ((j ≡ length xs) × (y ≡ z))
pushed-get [] y zero z e = inr (refl, held e)
pushed-get [] y (suc j) z e = absurd (none-some _ e)
pushed-get (x ∷ xs) y zero z e = inl e
pushed-get (x ∷ xs) y (suc j) z e = elim (pushed-get xs y j z e) [ inl old ↦ inl old | inr new ↦ let d = new.0 in inr ((omega arith), new.1) ]

pub kept-get : {X : Type 0} (xs ys : List X) (j : ℕ) (x : X) → slice_get xs j ≡ Some x → slice_get (xs ++ ys) j ≡ Some x
kept-get [] ys j x e = absurd (none-some _ e)
kept-get (y ∷ xs) ys zero x e = e
kept-get (y ∷ xs) ys (suc j) x e = kept-get xs ys j x e

pub last-get : {X : Type 0} (xs : List X) (y : X) (n : ℕ) → n ≡ length xs → slice_get (xs ++ (y ∷ [])) n ≡ Some y
last-get [] y zero e = refl
last-get [] y (suc n) e = absurd (omega arith)
last-get (x ∷ xs) y zero e = absurd (omega arith)
last-get (x ∷ xs) y (suc n) e = last-get xs y n (omega arith)

pub each-push : {X : Type 0} (P : ℕ → X → Type 0) (xs new : List X) (x : X) → EachAt P xs → new ≡ xs ++ (x ∷ []) → P (length xs) x → EachAt P new
each-push {X} P xs new x each pushed here k y got = elim (pushed-get xs x k y (subst (λ (zs : List X). slice_get zs k ≡ Some y) pushed got)) [
  | inl old ↦ each k y old
  | inr last ↦ subst (λ z. P k z) last.1 (subst (λ n. P n x) (sym last.0) here)
]

pub each-none : {X : Type 0} (P : ℕ → X → Type 0) → EachAt P []
each-none P k x e = absurd (none-some x e)

pub count-push : {X : Type 0} (xs new : List X) (x : X) (n : ℕ) → length xs ≡ n → new ≡ xs ++ (x ∷ []) → length new ≡ n + 1
count-push {X} xs new x n e pushed = ap (λ (zs : List X). length zs) pushed ∙ omega (arith, length-append {A = X})

pub all-each : {X : Type 0} (P : X → Type 0) (xs : List X) → ((k : ℕ) (x : X) → slice_get xs k ≡ Some x → P x) → All P xs
all-each P [] h = All-nil P
all-each P (x ∷ xs) h = All-cons P x xs (h 0 x refl) (all-each P xs (λ k y e. h (suc k) y e))

pub pairs-each : {X : Type 0} (R : X → X → Type 0) (xs : List X) → ((i j : ℕ) (x y : X) → slice_get xs i ≡ Some x → slice_get xs j ≡ Some y → i < j → R x y) → AllPairs R xs
pairs-each R [] h = λ i j d a b. absurd (omega (arith, b))
pairs-each R (x ∷ xs) h = AllPairs-cons R x xs (all-each (R x) xs (λ k y e. h 0 (suc k) x y refl e (omega arith))) (pairs-each R xs (λ i j a b e f l. h (suc i) (suc j) a b e f (omega arith)))

pub replicate-push : {X : Type 0} (n : ℕ) (x : X) (xs new : List X) → xs ≡ replicate n x → new ≡ xs ++ (x ∷ []) → new ≡ replicate (n + 1) x
replicate-push {X} n x xs new e pushed = pushed ∙ (ap (λ (zs : List X). zs ++ (x ∷ [])) e ∙ replicate-append-replicate n 1 x)

pub replicate-get : {X : Type 0} (n : ℕ) (x y : X) (k : ℕ) → slice_get (replicate n x) k ≡ Some y → y ≡ x
replicate-get zero x y k e = absurd (none-some _ e)
replicate-get (suc n) x y zero e = sym (held e)
replicate-get (suc n) x y (suc k) e = replicate-get n x y k e
