-- What stands at the places of lists.
use Rattle.std.specs.Prelude.{Contains, All, AllPairs, IsTrue, slice_get, map, option_map, unwrap_or}
use Rattle.std.specs.List.{slice_index_or}
use Rattle.std.proofs.Common.{◌≡◌, ◌∙◌, ℕ, zero, suc, ◌+◌, ◌<◌, ◌≤◌, Bool, List, [], ◌∷◌, length, Option, Some, None, refl, sym, ap, subst, arith, zero-add}
use Rattle.std.proofs.lemmas.Option.{none-some, same_Some, slice_get-get_or, slice_get-map, slice_get_within}
use Rattle.std.proofs.lemmas.List.Elements.{All-cons, All-nil}
use Rattle.lido_base.proofs.Lists.{contains-here, contains-later, place-contains}
use Rattle.lido_symbols.specs.Numbers.{enumerated}
use Rattle.least_paths.specs.Graph.{is_in}
use Rattle.rule_tables.proofs.SlotLemmas.{enumerated-at}
use Rattle.need_graphs.proofs.ListLemmas.{enumerated-place}

pub read-at : {X : Type 0} (xs : List X) (i : ℕ) (x d : X) → slice_get xs i ≡ Some x → slice_index_or xs i d ≡ x
read-at xs i x d e = same_Some _ _ (sym (slice_get-get_or xs i d (slice_get_within xs i x e)) ∙ e)

-- pairs by their places
pub pair-at : {X : Type 0} (R : X → X → Type 0) (xs : List X) (i j : ℕ) (x y : X) → AllPairs R xs → slice_get xs i ≡ Some x → slice_get xs j ≡ Some y → i < j → R x y
pair-at R xs i j x y all e f h = subst (λ a. R a y) (read-at xs i x x e) (subst (λ b. R (slice_index_or xs i x) b) (read-at xs j y x f) (all i j x h (slice_get_within xs j y f)))

pub pairs-from : {X : Type 0} (R : X → X → Type 0) (xs : List X) → ((i j : ℕ) (x y : X) → i < j → slice_get xs i ≡ Some x → slice_get xs j ≡ Some y → R x y) → AllPairs R xs
pairs-from R xs h i j d less below = h i j (slice_index_or xs i d) (slice_index_or xs j d) less (slice_get-get_or xs i d (omega (arith, less, below))) (slice_get-get_or xs j d below)

pub all-of : {X : Type 0} (P : X → Type 0) (xs : List X) → ((x : X) → Contains xs x → P x) → All P xs
all-of P [] h = All-nil P
all-of P (x ∷ xs) h = All-cons P x xs (h x (contains-here x xs)) (all-of P xs (λ y m. h y (contains-later x y xs m)))

-- what a place of a mapped list holds
pub unmapped : {X Y : Type 0} (f : X → Y) (xs : List X) (i : ℕ) (y : Y) → slice_get (map f xs) i ≡ Some y → (x : X) × (slice_get xs i ≡ Some x) × (f x ≡ y)
unmapped {X} {Y} f xs i y e = by (slice_get xs i) refl
  where
    by : (o : Option X) → slice_get xs i ≡ o → (x : X) × (slice_get xs i ≡ Some x) × (f x ≡ y)
    by None h = absurd (none-some _ (sym (slice_get-map f xs i ∙ ap (option_map f) h) ∙ e))
    by (Some x) h = (x, h, same_Some _ _ (sym (slice_get-map f xs i ∙ ap (option_map f) h) ∙ e))

-- the item of a place, with its number, and the place by the number
pub numbered-at : {X : Type 0} (xs : List X) (k : ℕ) (x : X) → slice_get xs k ≡ Some x → slice_get (enumerated 0 xs) k ≡ Some (k, x)
numbered-at xs k x at = enumerated-at 0 k x xs at ∙ ap (λ n. Some (n, x)) (zero-add k)

pub numbered-in : {X : Type 0} (xs : List X) (k : ℕ) (x : X) → slice_get xs k ≡ Some x → Contains (enumerated 0 xs) (k, x)
numbered-in xs k x at = place-contains (enumerated 0 xs) k (k, x) (numbered-at xs k x at)

pub place-of-number : {X : Type 0} (xs : List X) (z : ℕ × X) → Contains (enumerated 0 xs) z → slice_get xs z.0 ≡ Some z.1
place-of-number xs z m = let (k, same, at) = enumerated-place 0 z.0 z.1 xs m in ap (slice_get xs) (same ∙ zero-add k) ∙ at

pub number-at : {X : Type 0} (n : ℕ) (xs : List X) (i : ℕ) (z : ℕ × X) → slice_get (enumerated n xs) i ≡ Some z → (z.0 ≡ n + i) × (slice_get xs i ≡ Some z.1)
number-at n [] i z e = absurd (none-some _ e)
number-at n (y ∷ ys) zero z e = let same : (n, y) ≡ z = same_Some _ _ e in (sym (ap (λ w. w.0) same) ∙ (omega arith), ap (λ w. Some w.1) same)
number-at n (y ∷ ys) (suc i) z e = let p = number-at (suc n) ys i z e in ((let f = p.0 in omega (arith, f)), p.1)

-- behind the end of a list
pub past : {X : Type 0} (xs : List X) (x : ℕ) → slice_get xs x ≡ None → length xs ≤ x
past [] x e = omega arith
past (y ∷ ys) zero e = absurd (none-some y (sym e))
past (y ∷ ys) (suc x) e = let l = past ys x e in omega (arith, l)

pub in-below : (row : List Bool) (x : ℕ) → IsTrue (is_in row x) → x < length row
in-below [] x h = absurd (cc)
in-below (b ∷ row) zero h = omega arith
in-below (b ∷ row) (suc x) h = let l = in-below row x h in omega (arith, l)
