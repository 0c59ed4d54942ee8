-- A list with one element written anew.
use Rattle.std.proofs.Common.{◌≡◌, ◌<◌, ℕ, zero, suc, List, [], ◌∷◌, length, get_or, Some, refl, arith, ap, sym, ◌∙◌, slice_get, replicate}
use Rattle.std.proofs.lemmas.List.{get_or-replicate, length-replicate}
use Rattle.std.proofs.lemmas.Option.{slice_get_within, slice_get_read, get_or_from_slice_get}
use Rattle.std.proofs.Math.ListN.{set}

-- This and the next are core_machine's, which has them for itself alone (RunLemmas).
pub set-here : {A : Type 0} (xs : List A) (k : ℕ) (x : A) → k < length xs → slice_get (set xs k x) k ≡ Some x
set-here [] k x h = absurd (omega (arith, h))
set-here (y ∷ xs) zero x h = refl
set-here (y ∷ xs) (suc k) x h = set-here xs k x (omega (arith, h))

pub set-else : {A : Type 0} (xs : List A) (k m : ℕ) (x : A) → (k ≡ m → ⊥) → slice_get (set xs k x) m ≡ slice_get xs m
set-else [] k m x h = refl
set-else (y ∷ xs) zero zero x h = absurd (h refl)
set-else (y ∷ xs) zero (suc m) x h = refl
set-else (y ∷ xs) (suc k) zero x h = refl
set-else (y ∷ xs) (suc k) (suc m) x h = set-else xs k m x (λ e. h (ap suc e))

-- a list of one element, some times
pub all-same : {A : Type 0} (l : List A) (n : ℕ) (x : A) → l ≡ replicate n x → (k : ℕ) (y : A) → slice_get l k ≡ Some y → y ≡ x
all-same l n x is k y e =
    let there : slice_get (replicate n x) k ≡ Some y = ap (λ l. slice_get l k) (sym is) ∙ e in
    let w = slice_get_within (replicate n x) k y there in
    let c = length-replicate n x in
    sym (get_or_from_slice_get (replicate n x) k y x there) ∙ get_or-replicate n k x x (omega (arith, w, c))

-- a number that was read within a list
pub number-read : (xs : List ℕ) (k x : ℕ) → k < length xs → x ≡ get_or xs k x → x ≡ get_or xs k 0
number-read xs k x w e = sym (get_or_from_slice_get xs k x 0 (slice_get_read xs (length xs) k x refl w e))
