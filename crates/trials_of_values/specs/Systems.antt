-- Systems of equations for the trials.
use Rattle.std.specs.Prelude.{ℕ, zero, suc, ◌+◌}

-- Unknown 0 is 1, unknown 1 is one more, and unknown 2 is their sum.
abbrev pub three : (ℕ → ℕ) → ℕ → ℕ
three value zero = 1
three value (suc zero) = value 0 + 1
three value (suc (suc n)) = value 0 + value 1

-- Unknown 0 is one more than itself.
abbrev pub circular : (ℕ → ℕ) → ℕ → ℕ
circular value n = value n + 1
