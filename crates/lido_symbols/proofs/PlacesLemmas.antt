-- The place of what a look-up finds, and the number of what it doesn't find.
use Rattle.std.proofs.Common.{◌≡◌, ℕ, suc, ◌+◌, ◌≤◌, Bool, true, false, cond, not, nat_lt, if◌then◌else◌, List, [], ◌∷◌, length, Some, None, position, refl, ◌∙◌, arith}
use Rattle.std.specs.List.{position_or_len}
use Rattle.std.proofs.lemmas.Bool.{ltb-false}
use Rattle.lido_symbols.specs.Numbers.{place_in}

place_same : {X : Type 0} (p : X → Bool) (xs : List X) → position_or_len p xs ≡ place_in p xs
place_same p [] = refl
place_same p (x ∷ xs) = by (p x) (place_same p xs)
  where
    by : (b : Bool) → position_or_len p xs ≡ place_in p xs → cond (not b) (1 + position_or_len p xs) 0 ≡ (if b then 0 else suc (place_in p xs))
    by true e = refl
    by false e = omega (arith, e)

place_within : {X : Type 0} (p : X → Bool) (xs : List X) → place_in p xs ≤ length xs
place_within p [] = omega arith
place_within p (x ∷ xs) = by (p x) (place_within p xs)
  where
    by : (b : Bool) → place_in p xs ≤ length xs → (if b then 0 else suc (place_in p xs)) ≤ length (x ∷ xs)
    by true h = omega arith
    by false h = omega (arith, h)

pub place_found : {X : Type 0} (p : X → Bool) (xs : List X) (k : ℕ) → position p xs ≡ Some k → k ≡ place_in p xs
place_found p xs k found = by (nat_lt (position_or_len p xs) (length xs)) found ∙ place_same p xs
  where
    by : (b : Bool) → cond b (Some (position_or_len p xs)) None ≡ Some k → k ≡ position_or_len p xs
    by true e = cc
    by false e = absurd (cc)

pub place_missed : {X : Type 0} (p : X → Bool) (xs : List X) → position p xs ≡ None → length xs ≡ place_in p xs
place_missed p xs missed = by (nat_lt (position_or_len p xs) (length xs)) refl missed
  where
    by : (b : Bool) → nat_lt (position_or_len p xs) (length xs) ≡ b → cond b (Some (position_or_len p xs)) None ≡ None → length xs ≡ place_in p xs
    by true t e = absurd (cc)
    by false t e = omega (arith, ltb-false (position_or_len p xs) (length xs) t, place_same p xs, place_within p xs)
