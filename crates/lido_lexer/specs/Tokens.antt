-- Which bytes spell which token: a profile of the tokens of Eli's LIDO and PTG, whose strings have the escapes of C.
use Rattle.std.specs.Prelude.{◌≡◌, ◌<◌, ◌≤◌, ℕ, ℤ, pos, ◌==◌, if◌then◌else◌, List, [], ◌∷◌, length, drop, take_while, Option, Some, None, slice_get, unwrap_or, IsTrue}
use Rattle.lido_base.specs.Bytes.{is_letter, is_name_byte, is_digit, first_is, behind}
use Rattle.lido_lexer.specs.Bytes.{is_plain, is_literal_byte, octal_front, value_in}
use Rattle.lido_lexer.specs.Keywords.{keyword_of}
use Rattle.lido_lexer.specs.Signs.{IsSign}
use Rattle.lido_lexer.specs.declared.keyword.Keyword.{Keyword}
use Rattle.lido_lexer.specs.declared.sign.Sign.{Sign as SignOf}
use Rattle.lido_lexer.specs.declared.token.TokenKind.{TokenKind}
use Rattle.lido_lexer.specs.declared.token.TokenKind.TheVariants as kind

-- What a token says, with its text in place of the text's id.
pub data Shown : Type 0 where
  Word : List ℕ → Shown
  Key : Keyword → Shown
  Int : ℤ → Shown
  Str : List ℕ → Shown
  Literal : List ℕ → Shown
  Sign : SignOf → Shown

-- What a token says, its text found among these.
abbrev pub shown_kind : List (List ℕ) → TokenKind → Shown
shown_kind texts (kind.Word id) = Word (unwrap_or (slice_get texts id.0) [])
shown_kind texts (kind.Key keyword) = Key keyword
shown_kind texts (kind.Int z) = Int z
shown_kind texts (kind.Str id) = Str (unwrap_or (slice_get texts id.0) [])
shown_kind texts (kind.Literal id) = Literal (unwrap_or (slice_get texts id.0) [])
shown_kind texts (kind.Sign sign) = Sign sign

-- A letter or an underscore, and all the letters, digits and underscores that follow.
pub record IsName (bytes name rest : List ℕ) : Type 0 where
  pub begins : IsTrue (first_is is_letter bytes)
  pub all : name ≡ take_while is_name_byte bytes
  pub after : rest ≡ behind is_name_byte bytes

-- All the digits in front, of which there is one at least, and which write this number, below 2^63.
pub record IsNumber (bytes : List ℕ) (z : ℤ) (rest : List ℕ) : Type 0 where
  pub some : 0 < length (take_while is_digit bytes)
  pub value : z ≡ pos (value_in 10 (take_while is_digit bytes))
  pub small : value_in 10 (take_while is_digit bytes) ≤ 9223372036854775807
  pub after : rest ≡ behind is_digit bytes

-- The byte that a backslash and this one stand for in C, where they do without digits.
abbrev pub escaped : ℕ → Option ℕ
escaped b =
    if b == 110 then Some 10  -- n, line feed
    else if b == 116 then Some 9  -- t, tab
    else if b == 114 then Some 13  -- r, carriage return
    else if b == 97 then Some 7  -- a, alert
    else if b == 98 then Some 8  -- b, backspace
    else if b == 102 then Some 12  -- f, form feed
    else if b == 118 then Some 11  -- v, vertical tab
    else if b == 92 then Some 92  -- backslash
    else if b == 34 then Some 34  -- double quote
    else if b == 39 then Some 39  -- quote
    else if b == 63 then Some 63  -- question mark
    else None

-- One part of a string is in front of the rest and stands for a byte: that byte itself, a backslash and a byte that has a
-- meaning behind one, or a backslash and as many octal digits as there are, three at most, of a value up to 255.
pub data IsPart (bytes : List ℕ) (byte : ℕ) (rest : List ℕ) : Type 0 where
  plain : bytes ≡ byte ∷ rest → IsTrue (is_plain byte) → IsPart bytes byte rest
  escape : {letter : ℕ} → bytes ≡ 92 ∷ letter ∷ rest → escaped letter ≡ Some byte → IsPart bytes byte rest
  octal : {inner : List ℕ} → bytes ≡ 92 ∷ inner → 0 < length (octal_front inner)
      → byte ≡ value_in 8 (octal_front inner) → byte ≤ 255 → rest ≡ drop (length (octal_front inner)) inner → IsPart bytes byte rest

-- Parts that stand for these bytes, one for each, a double quote, and the rest.
abbrev pub IsQuoted : List ℕ → List ℕ → List ℕ → Type 0
IsQuoted bytes [] rest = bytes ≡ 34 ∷ rest
IsQuoted bytes (b ∷ text) rest = (inner : List ℕ) × IsPart bytes b inner × IsQuoted inner text rest

-- A double quote, parts that stand for the text, a double quote.
pub record IsString (bytes text rest : List ℕ) : Type 0 where
  pub inner : List ℕ
  pub opened : bytes ≡ 34 ∷ inner
  pub parts : IsQuoted inner text rest

-- A quote, the text, which has one byte at least and goes up to a quote or a line feed, and a quote.
pub record IsLiteral (bytes text rest : List ℕ) : Type 0 where
  pub inner : List ℕ
  pub opened : bytes ≡ 39 ∷ inner
  pub all : text ≡ take_while is_literal_byte inner
  pub some : 0 < length text
  pub closed : behind is_literal_byte inner ≡ 39 ∷ rest

-- A token that says this is in front of the rest.
abbrev pub IsFront : List ℕ → Shown → List ℕ → Type 0
IsFront bytes (Word name) rest = IsName bytes name rest × (keyword_of name ≡ None)
IsFront bytes (Key keyword) rest = (name : List ℕ) × IsName bytes name rest × (keyword_of name ≡ Some keyword)
IsFront bytes (Int z) rest = IsNumber bytes z rest
IsFront bytes (Str text) rest = IsString bytes text rest
IsFront bytes (Literal text) rest = IsLiteral bytes text rest
IsFront bytes (Sign sign) rest = IsSign bytes sign rest
