-- The signs and what spells them.
use Rattle.std.specs.Prelude.{◌≡◌, ℕ, nat_eq, Bool, false, ◌||◌, List, [], ◌∷◌, length, drop, Option, Some, find, codes}
use Rattle.std.specs.List.{starts_with}
use Rattle.lido_lexer.specs.declared.sign.Sign.{Sign}
use Rattle.lido_lexer.specs.declared.sign.Sign.TheVariants.{Produces, Arrow, AndAnd, OrOr, EqEq, NotEq, LessEq, GreaterEq, Colon, Semicolon, Comma, Dot, ParenOpen, ParenClose, BracketOpen, BracketClose, BraceOpen, BraceClose, Equal, Plus, Minus, Star, Slash, Percent, Bang, Less, Greater, Bar, Dollar}

-- The bytes of a sign.
abbrev pub sign_spelling : Sign → List ℕ
sign_spelling Produces = codes "::="
sign_spelling Arrow = codes "<-"
sign_spelling AndAnd = codes "&&"
sign_spelling OrOr = codes "||"
sign_spelling EqEq = codes "=="
sign_spelling NotEq = codes "!="
sign_spelling LessEq = codes "<="
sign_spelling GreaterEq = codes ">="
sign_spelling Colon = codes ":"
sign_spelling Semicolon = codes ";"
sign_spelling Comma = codes ","
sign_spelling Dot = codes "."
sign_spelling ParenOpen = codes "("
sign_spelling ParenClose = codes ")"
sign_spelling BracketOpen = codes "["
sign_spelling BracketClose = codes "]"
sign_spelling BraceOpen = codes "{"
sign_spelling BraceClose = codes "}"
sign_spelling Equal = codes "="
sign_spelling Plus = codes "+"
sign_spelling Minus = codes "-"
sign_spelling Star = codes "*"
sign_spelling Slash = codes "/"
sign_spelling Percent = codes "%"
sign_spelling Bang = codes "!"
sign_spelling Less = codes "<"
sign_spelling Greater = codes ">"
sign_spelling Bar = codes "|"
sign_spelling Dollar = codes "$"

-- All signs, the longest first.
abbrev pub signs : List Sign
signs =
    Produces ∷ Arrow ∷ AndAnd ∷ OrOr ∷ EqEq ∷ NotEq ∷ LessEq ∷ GreaterEq ∷ Colon ∷ Semicolon ∷ Comma ∷ Dot ∷
    ParenOpen ∷ ParenClose ∷ BracketOpen ∷ BracketClose ∷ BraceOpen ∷ BraceClose ∷ Equal ∷ Plus ∷ Minus ∷ Star ∷
    Slash ∷ Percent ∷ Bang ∷ Less ∷ Greater ∷ Bar ∷ Dollar ∷ []

-- The longest sign in front of a text.
unfoldable pub sign_of : List ℕ → Option Sign
sign_of bytes = find (λ sign. starts_with nat_eq bytes (sign_spelling sign)) signs

-- A comment begins in front of the text: no sign does then.
abbrev pub begins_comment : List ℕ → Bool
begins_comment bytes = starts_with nat_eq bytes (codes "/*") || starts_with nat_eq bytes (codes "//")

-- The longest sign in front is this one, and it is followed by the rest.
pub record IsSign (bytes : List ℕ) (sign : Sign) (rest : List ℕ) : Type 0 where
  pub no_comment : begins_comment bytes ≡ false
  pub longest : sign_of bytes ≡ Some sign
  pub behind : rest ≡ drop (length (sign_spelling sign)) bytes
