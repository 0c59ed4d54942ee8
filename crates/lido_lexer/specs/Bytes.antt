-- Bytes by what they may stand for in a token.
use Rattle.std.specs.Prelude.{ℕ, ◌+◌, ◌-◌, ◌*◌, Bool, ◌==◌, ◌&&◌, ◌||◌, not, nat_le, List, take, take_while, fold}
pub use Rattle.lido_base.specs.Bytes.{is_white, is_digit, is_letter, is_name_byte, first_is, behind}

-- An octal digit.
abbrev pub is_octal : ℕ → Bool
is_octal b = nat_le 48 b && nat_le b 55

-- What a comment to the end of the line goes on with: all but a line feed.
abbrev pub is_line_byte : ℕ → Bool
is_line_byte b = not (b == 10)

-- What may stand in a literal: all but its quote and a line feed.
abbrev pub is_literal_byte : ℕ → Bool
is_literal_byte b = not (b == 39) && not (b == 10)

-- What stands for itself in a string: a tab, and all from 32 on but the double quote and the backslash.
abbrev pub is_plain : ℕ → Bool
is_plain b = (nat_le 32 b || b == 9) && (not (b == 34) && not (b == 92))

-- The octal digits in front, three at most.
abbrev pub octal_front : List ℕ → List ℕ
octal_front bytes = take_while is_octal (take 3 bytes)

-- The number that digits write in a base.
abbrev pub value_in : ℕ → List ℕ → ℕ
value_in base digits = fold (λ n b. n * base + (b - 48)) 0 digits
