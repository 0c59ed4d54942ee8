-- A tree's text as marks.
use Rattle.std.specs.Prelude.{◌≡◌, ℕ, ℤ, ◌<◌, List, [], ◌∷◌, length, take_while, IsTrue, FitsSigned}
use Rattle.std.specs.Int.{w64}
use Rattle.sum_trees.specs.Bytes.{is_white, is_digit, is_letter, is_name_byte, behind, first_is, unsigned, digits_at, number_at}

-- what a text is made of: a bracket with the name of a rule, a number, and a closing bracket
pub data Mark : Type 0 where
  begins : List ℕ → Mark
  number : ℤ → Mark
  ends : Mark

-- The bytes spell the marks. White space may stand before, between and after all parts; a name or a number goes as far as it can, and a number is one of 64 bits.
abbrev pub Spells : List Mark → List ℕ → Type 0
Spells [] bytes = behind is_white bytes ≡ []
Spells (begins name ∷ marks) bytes = (rest : List ℕ) × (behind is_white bytes ≡ 40 ∷ rest) × IsTrue (first_is is_letter name)
    × (take_while is_name_byte (behind is_white rest) ≡ name) × Spells marks (behind is_name_byte (behind is_white rest))
Spells (number z ∷ marks) bytes = (0 < length (digits_at (behind is_white bytes))) × (number_at (behind is_white bytes) ≡ z) × FitsSigned w64 z
    × Spells marks (behind is_digit (unsigned (behind is_white bytes)))
Spells (ends ∷ marks) bytes = (rest : List ℕ) × (behind is_white bytes ≡ 41 ∷ rest) × Spells marks rest
