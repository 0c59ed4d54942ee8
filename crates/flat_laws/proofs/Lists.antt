-- Lists by places and by tests.
use Rattle.std.specs.Prelude.{Contains, IsTrue, All, AllPairs, slice_get, map, ◌||◌}
use Rattle.std.specs.List.{AllZip, list_any, slice_index_or}
use Rattle.std.proofs.Common.{◌≡◌, ℕ, zero, suc, ◌-◌, ◌<◌, ◌≤◌, ◌⊎◌, inl, inr, Bool, true, false, List, [], ◌∷◌, Some, refl, sym, ap, subst, ◌∙◌, arith}
use Rattle.std.proofs.lemmas.Option.{none-some, same_Some, slice_get_within, slice_get-get_or}
use Rattle.std.proofs.lemmas.Slice.Zip.{AllZip-long}
use Rattle.lido_base.proofs.Lists.{contains-nil, contains-cons, place-below, AllZip-place}
use Rattle.lido_symbols.specs.Numbers.{enumerated}

-- an item that passes lets the test of all pass
pub found-any : {X : Type 0} (test : X → Bool) (xs : List X) (x : X) → Contains xs x → IsTrue (test x) → IsTrue (list_any test xs)
found-any test [] x m h = absurd (contains-nil x m)
found-any {X} test (y ∷ xs) x m h = by (test y) refl (contains-cons y x xs m) (λ k. found-any test xs x k h)
  where
    by : (b : Bool) → test y ≡ b → (y ≡ x) ⊎ Contains xs x → (Contains xs x → IsTrue (list_any test xs)) → IsTrue (b || list_any test xs)
    by true e s later = refl
    by false e (inl s) later = let wrong : false ≡ true = sym e ∙ ap test s ∙ h in cc
    by false e (inr k) later = later k

-- what stands at the same place of the other list
pub zip-left : {A B : Type 0} (R : A → B → Type 0) (xs : List A) (ys : List B) (i : ℕ) (y : B) → AllZip R xs ys → slice_get ys i ≡ Some y → (x : A) × (slice_get xs i ≡ Some x) × R x y
zip-left R xs ys i y h e =
    let l = slice_get_within ys i y e in
    let s = AllZip-long R xs ys h in
    let x = place-below xs i (omega (arith, l, s)) in
    (x.0, x.1, AllZip-place R xs ys i x.0 y h x.1 e)

pub zip-right : {A B : Type 0} (R : A → B → Type 0) (xs : List A) (ys : List B) (i : ℕ) (x : A) → AllZip R xs ys → slice_get xs i ≡ Some x → (y : B) × (slice_get ys i ≡ Some y) × R x y
zip-right R xs ys i x h e =
    let l = slice_get_within xs i x e in
    let s = AllZip-long R xs ys h in
    let y = place-below ys i (omega (arith, l, s)) in
    (y.0, y.1, AllZip-place R xs ys i x y.0 h e y.1)

-- all from each place
pub all-places : {X : Type 0} (P : X → Type 0) (xs : List X) → ((k : ℕ) (x : X) → slice_get xs k ≡ Some x → P x) → All P xs
all-places P xs each k d below = each k (slice_index_or xs k d) (slice_get-get_or xs k d below)

pub pairs-places : {X : Type 0} (R : X → X → Type 0) (xs : List X) → ((i j : ℕ) (x y : X) → i < j → slice_get xs i ≡ Some x → slice_get xs j ≡ Some y → R x y) → AllPairs R xs
pairs-places R xs each i j d before below =
    each i j (slice_index_or xs i d) (slice_index_or xs j d) before (slice_get-get_or xs i d (omega arith)) (slice_get-get_or xs j d below)

read-at : {X : Type 0} (xs : List X) (i : ℕ) (x d : X) → slice_get xs i ≡ Some x → slice_index_or xs i d ≡ x
read-at xs i x d e = same_Some _ _ (sym (slice_get-get_or xs i d (slice_get_within xs i x e)) ∙ e)

-- of two elements the relation holds
pub pair-at : {X : Type 0} (R : X → X → Type 0) (xs : List X) (i j : ℕ) (x y : X) → AllPairs R xs → slice_get xs i ≡ Some x → slice_get xs j ≡ Some y → i < j → R x y
pair-at R xs i j x y all e f h = subst (λ a. R a y) (read-at xs i x x e) (subst (λ b. R (slice_index_or xs i x) b) (read-at xs j y x f) (all i j x h (slice_get_within xs j y f)))

pub mapped-place : {X Y : Type 0} (f : X → Y) (xs : List X) (i : ℕ) (x : X) → slice_get xs i ≡ Some x → slice_get (map f xs) i ≡ Some (f x)
mapped-place f [] i x e = absurd (none-some x e)
mapped-place f (y ∷ xs) zero x e = ap (λ z. Some (f z)) (same_Some y x e)
mapped-place f (y ∷ xs) (suc i) x e = mapped-place f xs i x e

pub mapped-back : {X Y : Type 0} (f : X → Y) (xs : List X) (i : ℕ) (y : Y) → slice_get (map f xs) i ≡ Some y → (x : X) × (slice_get xs i ≡ Some x) × (f x ≡ y)
mapped-back f [] i y e = absurd (none-some y e)
mapped-back f (x ∷ xs) zero y e = (x, refl, same_Some (f x) y e)
mapped-back f (x ∷ xs) (suc i) y e = mapped-back f xs i y e

-- an item of numbered ones stands at its number
pub enumerated-rule : {X : Type 0} (k i : ℕ) (x : X) (xs : List X) → Contains (enumerated k xs) (i, x) → (k ≤ i) × (slice_get xs (i - k) ≡ Some x)
enumerated-rule k i x [] m = absurd (contains-nil (i, x) m)
enumerated-rule {X} k i x (y ∷ xs) m = by (contains-cons (k, y) (i, x) (enumerated (suc k) xs) m) (enumerated-rule (suc k) i x xs)
  where
    by : (let one : ℕ × X = (k, y) in let other : ℕ × X = (i, x) in one ≡ other) ⊎ Contains (enumerated (suc k) xs) (i, x) → (Contains (enumerated (suc k) xs) (i, x) → (suc k ≤ i) × (slice_get xs (i - suc k) ≡ Some x))
        → (k ≤ i) × (slice_get (y ∷ xs) (i - k) ≡ Some x)
    by (inl e) later =
        let n : k ≡ i = ap (λ (p : ℕ × X). p.0) e in
        let z : i - k ≡ 0 = omega arith in
        (omega arith, subst (λ n. slice_get (y ∷ xs) n ≡ Some x) (sym z) (ap (λ (p : ℕ × X). Some p.1) e))
    by (inr m) later =
        let h = later m in
        let le = h.0 in
        let z : i - k ≡ suc (i - suc k) = omega arith in
        (omega arith, subst (λ n. slice_get (y ∷ xs) n ≡ Some x) (sym z) h.1)
