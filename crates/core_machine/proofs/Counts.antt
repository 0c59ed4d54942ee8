-- Lists without doubles: what they add up to is at most what a list adds up to that has all their elements.
use Rattle.std.specs.Prelude.{Contains, map, sum_by, flat_map, slice_get, Some}
use Rattle.std.specs.List.{range_with_len}
use Rattle.std.proofs.Common.{◌≡◌, ℕ, suc, ◌+◌, ◌≤◌, ◌⊎◌, inl, inr, List, [], ◌∷◌, ◌++◌, length, refl, arith, ap, sym, subst, ◌∙◌}
use Rattle.std.proofs.lemmas.List.Sums.{sum_by-append, sum_by-cons}
use Rattle.std.proofs.lemmas.List.Elements.{Contains-append_left, Contains-append_right}
use Rattle.flat_grammar.proofs.Lists.{contains-cons, contains-first, contains-later}
use Rattle.core_machine.proofs.Lists.{split-at}

-- each element stands once
abbrev pub Once : {A : Type 0} → List A → Type 0
Once {A} xs = (front back : List A) (x : A) → xs ≡ front ++ x ∷ back → ¬ Contains front x

behind-once : {A : Type 0} (x : A) (xs : List A) → Once (x ∷ xs) → Once xs
behind-once x xs once front back y e m = once (x ∷ front) back y (ap (λ l. x ∷ l) e) (contains-later x y front m)

first-once : {A : Type 0} (x : A) (xs : List A) → Once (x ∷ xs) → ¬ Contains xs x
first-once x xs once m = let p = split-at xs x m in once (x ∷ p.0) p.1 x (ap (λ l. x ∷ l) p.2) (contains-first x p.0)

pub either-part : {A : Type 0} (xs ys : List A) (y : A) → Contains (xs ++ ys) y → Contains xs y ⊎ Contains ys y
either-part [] ys y m = inr m
either-part (x ∷ xs) ys y m = go (contains-cons x y (xs ++ ys) m) (either-part xs ys y)
  where
    go : (x ≡ y) ⊎ Contains (xs ++ ys) y → (Contains (xs ++ ys) y → Contains xs y ⊎ Contains ys y) → Contains (x ∷ xs) y ⊎ Contains ys y
    go (inl e) later = inl (subst (λ z. Contains (x ∷ xs) z) e (contains-first x xs))
    go (inr n) later = elim (later n) [ inl a ↦ inl (contains-later x y xs a) | inr b ↦ inr b ]

-- the element isn't among the others, so it can be left out
left-out : {A : Type 0} (front back : List A) (x y : A) → (x ≡ y → ⊥) → Contains (front ++ x ∷ back) y → Contains (front ++ back) y
left-out front back x y other m = go (either-part front (x ∷ back) y m)
  where
    go : Contains front y ⊎ Contains (x ∷ back) y → Contains (front ++ back) y
    go (inl a) = Contains-append_left front back y a
    go (inr b) = elim (contains-cons x y back b) [ inl e ↦ absurd (other e) | inr n ↦ Contains-append_right front back y n ]

-- what a list adds up to by a function that tells its elements apart is at most what the list of all its values adds up to
pub sum-within : {A B : Type 0} (h : A → B) (f : B → ℕ) (xs : List A) (ys : List B) → Once xs → ((x y : A) → Contains xs x → Contains xs y → h x ≡ h y → x ≡ y)
    → ((x : A) → Contains xs x → Contains ys (h x)) → sum_by (λ x. f (h x)) xs ≤ sum_by f ys
sum-within h f [] ys once apart inside = omega arith
sum-within {A} {B} h f (x ∷ xs) ys once apart inside =
    go (split-at ys (h x) (inside x (contains-first x xs))) (λ zs. sum-within h f xs zs (behind-once x xs once) (λ y z m n. apart y z (contains-later x y xs m) (contains-later x z xs n)))
  where
    go : ((front : List B) × (back : List B) × (ys ≡ front ++ h x ∷ back)) → ((zs : List B) → ((y : A) → Contains xs y → Contains zs (h y)) → sum_by (λ y. f (h y)) xs ≤ sum_by f zs) → sum_by (λ y. f (h y)) (x ∷ xs) ≤ sum_by f ys
    go (front, back, is) later =
        let rest = later (front ++ back) (λ y m. left-out front back (h x) (h y)
        (λ e. first-once x xs once (subst (λ z. Contains xs z) (sym (apart x y (contains-first x xs) (contains-later x y xs m) e)) m))
        (subst (λ l. Contains l (h y)) is (inside y (contains-later x y xs m)))) in
        let a = ap (sum_by f) is ∙ sum_by-append f front (h x ∷ back) in
        let b = sum_by-cons f (h x) back in
        let c = sum_by-append f front back in
        let d = sum_by-cons (λ y. f (h y)) x xs in
        omega (arith, rest, a, b, c, d)

pub sum-ones : {A : Type 0} (xs : List A) → sum_by (λ (x : A). 1) xs ≡ length xs
sum-ones [] = refl
sum-ones (x ∷ xs) = let e = sum-ones xs in let d = sum_by-cons (λ z. 1) x xs in omega (arith, e, d)

pub sum-flat : {A B : Type 0} (f : B → ℕ) (g : A → List B) (xs : List A) → sum_by f (flat_map g xs) ≡ sum_by (λ x. sum_by f (g x)) xs
sum-flat f g [] = refl
sum-flat f g (x ∷ xs) = sum_by-append f (g x) (flat_map g xs) ∙ (let e = sum-flat f g xs in let d = sum_by-cons (λ x. sum_by f (g x)) x xs in omega (arith, e, d))

pub sum-same : {A : Type 0} (f g : A → ℕ) (xs : List A) → ((x : A) → Contains xs x → f x ≡ g x) → sum_by f xs ≡ sum_by g xs
sum-same f g [] h = refl
sum-same f g (x ∷ xs) h =
    let e = sum-same f g xs (λ y m. h y (contains-later x y xs m)) in
    let a = sum_by-cons f x xs in let b = sum_by-cons g x xs in let c = h x (contains-first x xs) in omega (arith, e, a, b, c)

-- along the places of a list
pub sum-places : {A : Type 0} (f : A → ℕ) (g : ℕ → ℕ) (a : ℕ) (xs : List A) → ((k : ℕ) (x : A) → slice_get xs k ≡ Some x → g (a + k) ≡ f x) → sum_by g (range_with_len a (length xs)) ≡ sum_by f xs
sum-places f g a [] h = refl
sum-places f g a (x ∷ xs) h =
    let e = sum-places f g (a + 1) xs (λ k y is. let n : a + 1 + k ≡ a + suc k = omega arith in ap g n ∙ h (suc k) y is) in
    let n : a ≡ a + 0 = omega arith in
    let first = ap g n ∙ h 0 x refl in
    let c = sum_by-cons g a (range_with_len (a + 1) (length xs)) in
    let d = sum_by-cons f x xs in
    omega (arith, e, first, c, d)

pub sum-map : {A B : Type 0} (f : B → ℕ) (g : A → B) (xs : List A) → sum_by f (map g xs) ≡ sum_by (λ x. f (g x)) xs
sum-map f g [] = refl
sum-map f g (x ∷ xs) = let e = sum-map f g xs in let c = sum_by-cons f (g x) (map g xs) in let d = sum_by-cons (λ y. f (g y)) x xs in omega (arith, e, c, d)
