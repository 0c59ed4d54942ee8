-- What digits write, digit by digit.
use Rattle.std.proofs.Common.{◌≡◌, ℕ, ◌+◌, ◌-◌, ◌*◌, ◌<◌, ◌≤◌, List, [], ◌∷◌, length, get_or, drop, fold, refl, ap, sym, ◌∙◌, arith, add-one}
use Rattle.std.proofs.Math.Seq.{drop-cons}
use Rattle.std.proofs.lemmas.List.{drop_all}

-- the number that digits write behind others that wrote n
abbrev pub value_after : ℕ → ℕ → List ℕ → ℕ
value_after base n digits = fold (λ n b. n * base + (b - 48)) n digits

pub value_more : (base n i : ℕ) (digits : List ℕ) → i < length digits
    → value_after base n (drop i digits) ≡ value_after base (n * base + (get_or digits i 0 - 48)) (drop (i + 1) digits)
value_more base n i digits less = rw (add-one, drop-cons digits i 0) refl

pub value_rest : (base n i : ℕ) (digits : List ℕ) → length digits ≤ i → value_after base n (drop i digits) ≡ n
value_rest base n i digits past = rw (drop_all i digits past) refl

pub value_step : (base n i d total : ℕ) (digits : List ℕ) → i < length digits → d ≡ get_or digits i 0 - 48
    → value_after base n (drop i digits) ≡ total → value_after base (n * base + d) (drop (i + 1) digits) ≡ total
value_step base n i d total digits less digit before =
    ap (λ (k : ℕ). value_after base (n * base + k) (drop (i + 1) digits)) digit ∙ sym (value_more base n i digits less) ∙ before

decimal_grows : (n : ℕ) (digits : List ℕ) → n ≤ value_after 10 n digits
decimal_grows n [] = omega arith
decimal_grows n (b ∷ digits) = omega (arith, decimal_grows (n * 10 + (b - 48)) digits)

octal_grows : (n : ℕ) (digits : List ℕ) → n ≤ value_after 8 n digits
octal_grows n [] = omega arith
octal_grows n (b ∷ digits) = omega (arith, octal_grows (n * 8 + (b - 48)) digits)

-- one digit more makes a large number too large
pub decimal_too_large : (n i : ℕ) (digits : List ℕ) → i < length digits → 922337203685477580 < n → 9223372036854775807 < value_after 10 n (drop i digits)
decimal_too_large n i digits less large = rw (value_more 10 n i digits less) (omega (arith, decimal_grows (n * 10 + (get_or digits i 0 - 48)) (drop (i + 1) digits)))

pub octal_too_large : (n i : ℕ) (digits : List ℕ) → i < length digits → 255 < n → 255 < value_after 8 n (drop i digits)
octal_too_large n i digits less large = omega (arith, octal_grows n (drop i digits))
