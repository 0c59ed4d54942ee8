-- Bytes by what they may stand for, and the front of a text whose bytes pass a test.
use Rattle.std.specs.Prelude.{ℕ, Bool, false, ◌==◌, ◌&&◌, ◌||◌, nat_le, List, [], ◌∷◌, drop}
use Rattle.std.specs.List.{prefix_len}

-- Space, tab, form feed, carriage return and line feed.
abbrev pub is_white : ℕ → Bool
is_white b = b == 32 || (b == 9 || (b == 12 || (b == 13 || b == 10)))

-- A decimal digit.
abbrev pub is_digit : ℕ → Bool
is_digit b = nat_le 48 b && nat_le b 57

-- A letter of ASCII, or an underscore.
abbrev pub is_letter : ℕ → Bool
is_letter b = (nat_le 65 b && nat_le b 90) || ((nat_le 97 b && nat_le b 122) || b == 95)

-- What a name goes on with.
abbrev pub is_name_byte : ℕ → Bool
is_name_byte b = is_letter b || is_digit b

-- The first byte is there and passes the test.
abbrev pub first_is : (ℕ → Bool) → List ℕ → Bool
first_is p [] = false
first_is p (b ∷ bytes) = p b

-- What is left behind all the bytes in front that pass the test.
abbrev pub behind : (ℕ → Bool) → List ℕ → List ℕ
behind p bytes = drop (prefix_len p bytes) bytes
