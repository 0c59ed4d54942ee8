-- The bytes of a tree's text: white space, names and numbers.
use Rattle.std.specs.Prelude.{ℕ, ℤ, ◌+◌, ◌-◌, ◌*◌, Bool, ◌||◌, ◌==◌, if◌then◌else◌, List, [], ◌∷◌, drop, zero, suc, take_while, pos, negsuc}
pub use Rattle.lido_base.specs.Bytes.{is_digit, is_letter, is_name_byte, behind, first_is}

-- White space of a tree: space, tab, carriage return and line feed. A form feed is none here.
abbrev pub is_white : ℕ → Bool
is_white b = b == 32 || (b == 9 || (b == 13 || b == 10))

-- the sign of a negative number
abbrev pub is_minus : ℕ → Bool
is_minus b = b == 45

-- the bytes without a minus in front
abbrev pub unsigned : List ℕ → List ℕ
unsigned bytes = if first_is is_minus bytes then drop 1 bytes else bytes

-- the digits of the number in front, as many as there are
abbrev pub digits_at : List ℕ → List ℕ
digits_at bytes = take_while is_digit (unsigned bytes)

-- the number that digits say, after those that said n
abbrev pub said_after : ℕ → List ℕ → ℕ
said_after n [] = n
said_after n (b ∷ bytes) = said_after (n * 10 + (b - 48)) bytes

-- the negative of a number
abbrev pub minus : ℕ → ℤ
minus zero = pos 0
minus (suc n) = negsuc n

-- the number in front: an optional minus, and digits
abbrev pub number_at : List ℕ → ℤ
number_at bytes = if first_is is_minus bytes then minus (said_after 0 (digits_at bytes)) else pos (said_after 0 (digits_at bytes))
