-- The tokens of a text by their part in a pattern.
use Rattle.std.specs.Prelude.{ℕ, ℤ, pos, negsuc, nat_le, nat_eq, Bool, false, ◌&&◌, if◌then◌else◌, List, [], ◌∷◌, ◌++◌, Option, Some, None}
use Rattle.lido_lexer.specs.declared.keyword.Keyword.{Keyword}
use Rattle.lido_lexer.specs.declared.keyword.Keyword.TheVariants as keyword
use Rattle.lido_lexer.specs.declared.sign.Sign.{Sign}
use Rattle.lido_lexer.specs.declared.sign.Sign.TheVariants as sign
use Rattle.lido_lexer.specs.declared.token.Token.{Token}
use Rattle.lido_lexer.specs.declared.token.TokenKind.TheVariants as kind
use Rattle.ptg_patterns.specs.declared.marks.Mark.{Mark}
use Rattle.ptg_patterns.specs.declared.marks.Mark.TheVariants.{Name, Colon, Fixed, Bare, Numbering, Number, BraceOpen, BraceClose, IntWord, StringWord, Misfit}

-- Two keywords are words for types.
abbrev pub key_mark : Keyword → Mark
key_mark keyword.Int = IntWord
key_mark keyword.Str = StringWord
key_mark _ = Misfit

-- An int from 1 to 64 may number a point.
abbrev pub number_mark : ℤ → Mark
number_mark (pos n) = if nat_le 1 n && nat_le n 64 then Number n else Misfit
number_mark (negsuc n) = Misfit

-- An int begins where this `$` ends.
abbrev pub is_numbered : Token → List Token → Bool
is_numbered dollar [] = false
is_numbered dollar (token ∷ behind) = elim token.what [ kind.Int z ↦ nat_eq token.from dollar.to | _ ↦ false ]

-- A `$` is one that an int follows directly, or a bare one.
abbrev pub sign_mark : Token → Sign → List Token → Mark
sign_mark token sign.Colon behind = Colon
sign_mark token sign.BraceOpen behind = BraceOpen
sign_mark token sign.BraceClose behind = BraceClose
sign_mark token sign.Dollar behind = if is_numbered token behind then Numbering token.from else Bare token.from
sign_mark token _ behind = Misfit

-- What a token may be in a pattern, by the tokens behind it.
abbrev pub mark_of : Token → List Token → Mark
mark_of token behind = elim token.what [
  | kind.Word id ↦ Name token.from id
  | kind.Key word ↦ key_mark word
  | kind.Int z ↦ number_mark z
  | kind.Str id ↦ Fixed id
  | kind.Literal id ↦ Misfit
  | kind.Sign s ↦ sign_mark token s behind
]

-- One mark for each token.
abbrev pub marks : List Token → List Mark
marks [] = []
marks (token ∷ behind) = mark_of token behind ∷ marks behind

-- A place where no token can be formed is a mark that fits nowhere.
abbrev pub marks_up_to : List Token → Option ℕ → List Mark
marks_up_to tokens None = marks tokens
marks_up_to tokens (Some at) = marks tokens ++ Misfit ∷ []
