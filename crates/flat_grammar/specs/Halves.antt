-- Two words of 128 bits as one number.
use Rattle.std.specs.Prelude.{◌≡◌, ℕ, ◌+◌, ◌*◌, ◌<◌, ◌^◌, ◌%◌, ◌/◌}
use Rattle.std.proofs.lemmas.Nat.{div-mul-add, mod-mul-add}

-- the number whose bits are those of `low`, and behind them those of `high`
abbrev pub number_of : ℕ → ℕ → ℕ
number_of low high = high * 2 ^ 128 + low

pub low_again : (low high : ℕ) → low < 2 ^ 128 → number_of low high % 2 ^ 128 ≡ low
low_again low high small = mod-mul-add high (2 ^ 128) low small

pub high_again : (low high : ℕ) → low < 2 ^ 128 → number_of low high / 2 ^ 128 ≡ high
high_again low high small = div-mul-add high (2 ^ 128) low small
