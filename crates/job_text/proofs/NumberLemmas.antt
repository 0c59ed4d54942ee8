-- What up to ten digits say, digit by digit.
use Rattle.std.proofs.Common.{◌≡◌, ◌≤◌, ◌<◌, ℕ, ◌+◌, ◌-◌, ◌*◌, ◌^◌, true, List, length, take, get_or, IsTrue, ap, ◌∙◌, arith, rules}
use Rattle.std.specs.Char.{is_ascii_digit, digit_value}
use Rattle.std.specs.List.{list_all}
use Rattle.std.specs.Int.{IsInRange}
use Rattle.std.specs.Str.Parse.{digits_value}
use Rattle.std.proofs.lemmas.Int.Digits.{digits_value_more}
use Rattle.std.proofs.lemmas.Str.Parse.{IsNumeralModel, numerals_by_value, digit_at, digits_value_short, digits_value-take-le}
use Rattle.std.proofs.lemmas.Bool.Decides.{nat_tests}
use Rattle.std.proofs.lemmas.Grind.{common_steps}
use Rattle.job_text.specs.Forms.{is_number}

model : IsNumeralModel (λ ds. list_all is_ascii_digit ds ≡ true) (digits_value 10)
model = numerals_by_value _ (search rules)

record IsShort (ds : List ℕ) : Type 0 where
  some : 0 < length ds
  few : length ds ≤ 10
  digits : list_all is_ascii_digit ds ≡ true

short : (ds : List ℕ) → IsTrue (is_number ds) → IsShort ds
unfolding is_number
short ds h = record { some = grind (arith, common_steps); few = grind (arith, common_steps); digits = grind (arith, common_steps) }

digit : (c : ℕ) → IsInRange 48 57 c → digit_value c ≡ c - 48
digit c h = grind (arith, nat_tests)

pub record IsNextDigit (ds : List ℕ) (i : ℕ) : Type 0 where
  pub more : digits_value 10 (take (i + 1) ds) ≡ digits_value 10 (take i ds) * 10 + (get_or ds i 0 - 48)
  pub bound : digits_value 10 (take (i + 1) ds) < 10 ^ 10

pub next_digit : (ds : List ℕ) (i : ℕ) → IsTrue (is_number ds) → i < length ds → IsNextDigit ds i
next_digit ds i h l =
    let s : IsShort ds = short ds h in
    let d : IsInRange 48 57 (get_or ds i 0) = digit_at ds i (model.to ds s.digits) l in
    let small : digits_value 10 ds < 10 ^ 10 = digits_value_short model ds 10 s.digits s.few in
    record {
      more = digits_value_more 10 ds i l ∙ ap (λ n. digits_value 10 (take i ds) * 10 + n) (digit _ d);
      bound = omega (arith, digits_value-take-le 10 ds (i + 1) (omega arith), small);
    }
