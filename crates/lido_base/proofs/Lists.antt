-- Lists by their elements and by their places.
use Rattle.std.specs.Prelude.{Contains, slice_get, flat_map}
use Rattle.std.specs.List.{AllZip}
use Rattle.std.proofs.Common.{◌≡◌, ℕ, zero, suc, ◌<◌, ◌⊎◌, inl, inr, List, [], ◌∷◌, ◌++◌, length, map, Some, refl, arith, ap, sym, subst}
use Rattle.std.proofs.lemmas.List.Elements.{Contains-append_left, Contains-append_right, Contains-append_cases}
use Rattle.std.proofs.lemmas.Option.{none-some, same_Some}

-- ---- elements

pub contains-nil : {X : Type 0} (x : X) → Contains [] x → ⊥
contains-nil x m = absurd (omega (arith, m.1))

pub contains-cons : {X : Type 0} (x y : X) (xs : List X) → Contains (x ∷ xs) y → (x ≡ y) ⊎ Contains xs y
contains-cons x y xs (zero, h, e) = inl e
contains-cons x y xs (suc k, h, e) = inr (k, (omega arith), e)

pub contains-here : {X : Type 0} (x : X) (xs : List X) → Contains (x ∷ xs) x
contains-here x xs = (zero, (omega arith), refl)

pub contains-later : {X : Type 0} (x y : X) (xs : List X) → Contains xs y → Contains (x ∷ xs) y
contains-later x y xs (k, h, e) = (suc k, (omega arith), e)

pub map-contains : {X Y : Type 0} (f : X → Y) (xs : List X) (x : X) → Contains xs x → Contains (map f xs) (f x)
map-contains f [] x m = absurd (contains-nil x m)
map-contains f (z ∷ xs) x m = by (contains-cons z x xs m) (map-contains f xs x)
  where
    by : (z ≡ x) ⊎ Contains xs x → (Contains xs x → Contains (map f xs) (f x)) → Contains (f z ∷ map f xs) (f x)
    by (inl e) later = subst (λ v. Contains (f z ∷ map f xs) (f v)) e (contains-here (f z) (map f xs))
    by (inr k) later = contains-later (f z) (f x) (map f xs) (later k)

pub contains-map : {X Y : Type 0} (f : X → Y) (xs : List X) (y : Y) → Contains (map f xs) y → (x : X) × Contains xs x × (f x ≡ y)
contains-map f [] y m = absurd (contains-nil y m)
contains-map {X} f (x ∷ xs) y m = by (contains-cons (f x) y (map f xs) m) (contains-map f xs y)
  where
    by : (f x ≡ y) ⊎ Contains (map f xs) y → (Contains (map f xs) y → (z : X) × Contains xs z × (f z ≡ y)) → (z : X) × Contains (x ∷ xs) z × (f z ≡ y)
    by (inl e) later = (x, contains-here x xs, e)
    by (inr k) later = let (z, among, e) = later k in (z, contains-later x z xs among, e)

pub flat-contains : {X Y : Type 0} (f : X → List Y) (xs : List X) (x : X) (y : Y) → Contains xs x → Contains (f x) y → Contains (flat_map f xs) y
flat-contains f [] x y m k = absurd (contains-nil x m)
flat-contains f (z ∷ xs) x y m k = by (contains-cons z x xs m) (λ m. flat-contains f xs x y m k)
  where
    by : (z ≡ x) ⊎ Contains xs x → (Contains xs x → Contains (flat_map f xs) y) → Contains (f z ++ flat_map f xs) y
    by (inl e) later = Contains-append_left (f z) (flat_map f xs) y (subst (λ v. Contains (f v) y) (sym e) k)
    by (inr m) later = Contains-append_right (f z) (flat_map f xs) y (later m)

pub contains-flat : {X Y : Type 0} (f : X → List Y) (xs : List X) (y : Y) → Contains (flat_map f xs) y → (x : X) × Contains xs x × Contains (f x) y
contains-flat f [] y m = absurd (contains-nil y m)
contains-flat {X} f (x ∷ xs) y m = by (Contains-append_cases (f x) (flat_map f xs) y m) (contains-flat f xs y)
  where
    by : Contains (f x) y ⊎ Contains (flat_map f xs) y → (Contains (flat_map f xs) y → (z : X) × Contains xs z × Contains (f z) y) → (z : X) × Contains (x ∷ xs) z × Contains (f z) y
    by (inl k) later = (x, contains-here x xs, k)
    by (inr k) later = let (z, among, e) = later k in (z, contains-later x z xs among, e)

-- ---- places

-- an element stands at a place
pub contains-place : {X : Type 0} (xs : List X) (x : X) → Contains xs x → (k : ℕ) × (slice_get xs k ≡ Some x)
contains-place [] x m = absurd (contains-nil x m)
contains-place (y ∷ xs) x (zero, h, e) = (zero, ap Some e)
contains-place (y ∷ xs) x (suc k, h, e) = let p = contains-place xs x (k, (omega arith), e) in (suc p.0, p.1)

-- what stands at a place is an element
pub place-contains : {X : Type 0} (xs : List X) (k : ℕ) (x : X) → slice_get xs k ≡ Some x → Contains xs x
place-contains [] k x e = absurd (none-some _ e)
place-contains (y ∷ xs) zero x e = (zero, (omega arith), same_Some _ _ e)
place-contains (y ∷ xs) (suc k) x e = contains-later y x xs (place-contains xs k x e)

-- something stands at each place below the length
pub place-below : {X : Type 0} (xs : List X) (k : ℕ) → k < length xs → (x : X) × (slice_get xs k ≡ Some x)
place-below [] k h = absurd (omega (arith, h))
place-below (x ∷ xs) zero h = (x, refl)
place-below (x ∷ xs) (suc k) h = place-below xs k (omega (arith, h))

-- what is added behind moves nothing
pub place-append : {X : Type 0} (xs ys : List X) (k : ℕ) (x : X) → slice_get xs k ≡ Some x → slice_get (xs ++ ys) k ≡ Some x
place-append [] ys k x e = absurd (none-some _ e)
place-append (y ∷ xs) ys zero x e = e
place-append (y ∷ xs) ys (suc k) x e = place-append xs ys k x e

-- lists that are related place by place
pub AllZip-place : {A B : Type 0} (R : A → B → Type 0) (xs : List A) (ys : List B) (k : ℕ) (x : A) (y : B) → AllZip R xs ys → slice_get xs k ≡ Some x → slice_get ys k ≡ Some y → R x y
AllZip-place R [] ys k x y h e f = absurd (none-some _ e)
AllZip-place R (a ∷ xs) [] k x y h e f = absurd (none-some _ f)
AllZip-place R (a ∷ xs) (b ∷ ys) zero x y h e f = subst (λ u. R u y) (same_Some _ _ e) (subst (λ v. R a v) (same_Some _ _ f) h.0)
AllZip-place R (a ∷ xs) (b ∷ ys) (suc k) x y h e f = AllZip-place R xs ys k x y h.1 e f
