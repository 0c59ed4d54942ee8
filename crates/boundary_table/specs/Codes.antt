-- The two words that stand for a value. Neither is 0, since each is at least 2^63.
use Rattle.std.specs.Prelude.{ℕ, ◌+◌, ◌*◌, ◌/◌, ◌%◌, ◌^◌, List, [], ◌∷◌, if◌then◌else◌, slice_index}
use Rattle.std.specs.Int.{cast_unsigned, w64}
use Rattle.lido_base.specs.declared.value.BadKind.{BadKind}
use Rattle.lido_base.specs.declared.value.BadKind.TheVariants.{Overflow, DivideByZero, TextTooLong}
use Rattle.lido_base.specs.declared.value.Value.{Value}
use Rattle.lido_base.specs.declared.value.Value.TheVariants.{Int, Bool, Str, Text, Void, Bad}

abbrev pub kind_number : BadKind → ℕ
kind_number Overflow = 0
kind_number DivideByZero = 1
kind_number TextTooLong = 2

-- The kind of value, and the first of its numbers.
abbrev pub first_word : Value → ℕ
first_word (Int z) = 2 ^ 63 + cast_unsigned w64 z / 2 ^ 32
first_word (Bool b) = 2 ^ 63 + 2 ^ 48 + (if b then 1 else 0)
first_word (Str s) = 2 ^ 63 + 2 * 2 ^ 48 + s.0
first_word (Text d) = 2 ^ 63 + 3 * 2 ^ 48 + d.room * 2 ^ 32 + d.node
first_word Void = 2 ^ 63 + 4 * 2 ^ 48
first_word (Bad o) = 2 ^ 63 + 5 * 2 ^ 48 + o.node

-- The other numbers.
abbrev pub second_word : Value → ℕ
second_word (Int z) = 2 ^ 63 + cast_unsigned w64 z % 2 ^ 32
second_word (Bool b) = 2 ^ 63
second_word (Str s) = 2 ^ 63
second_word (Text d) = 2 ^ 63 + d.len
second_word Void = 2 ^ 63
second_word (Bad o) = 2 ^ 63 + o.comp * 256 + kind_number o.kind

-- The words of all keys, in order.
abbrev pub codes_of : List Value → List ℕ
codes_of [] = []
codes_of (v ∷ vs) = first_word v ∷ second_word v ∷ codes_of vs

abbrev pub code : List Value → ℕ → ℕ
code contents w = slice_index (codes_of contents) w
