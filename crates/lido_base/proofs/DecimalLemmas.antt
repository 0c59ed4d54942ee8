-- The decimal text of a number, digit by digit.
use Rattle.std.proofs.Common.{◌≡◌, ℕ, ◌+◌, ◌/◌, ◌^◌, ◌<◌, ◌≤◌, false, ◌∷◌, length, ℤ, pos, negsuc, int_le, unsigned_abs, refl, ap, sym, ◌∙◌, arith, length-append, true≢false}
use lib.Dec.{leb-zero}
use Rattle.std.proofs.lemmas.Fmt.{decimal_digit, decimal_step, length-decimal-le}
use Rattle.std.specs.Fmt.{decimal, signed_decimal}

pub longest : (n : ℕ) → n < 2 ^ 64 → length (decimal n) ≤ 20
longest n h = length-decimal-le 20 n (omega arith) (omega arith) h

pub one_digit : (n : ℕ) → n < 10 → length (decimal n) ≡ 1
one_digit n h = ap length (decimal_digit n h)

pub one_digit_more : (n : ℕ) → 10 ≤ n → n < 2 ^ 64 → length (decimal n) ≡ length (decimal (n / 10)) + 1
one_digit_more n lo hi = ap length (decimal_step n lo hi) ∙ length-append _ _

-- a number below 0 has a minus in front
pub minus_first : (z : ℤ) → int_le (pos 0) z ≡ false → 45 ∷ decimal (unsigned_abs z) ≡ signed_decimal z
minus_first (pos n) e = absurd (true≢false (sym (leb-zero n) ∙ e))
minus_first (negsuc n) e = refl
