-- Phrases of one token, for the grammars over tokens.
use Rattle.std.specs.Prelude.{◌≡◌, List, ◌∷◌}
use Rattle.lido_lexer.specs.declared.keyword.Keyword.{Keyword}
use Rattle.lido_lexer.specs.declared.sign.Sign.{Sign}
use Rattle.lido_lexer.specs.declared.token.Token.{Token}
use Rattle.lido_lexer.specs.declared.token.TokenKind.{TokenKind}
use Rattle.lido_lexer.specs.declared.token.TokenKind.TheVariants as kind

-- one token that says this
pub data Sees (what : TokenKind) : List Token → Token → List Token → Type 0 where
  token : {t : Token} {us : List Token} → t.what ≡ what → Sees what (t ∷ us) t us

-- one sign
abbrev pub Signs : Sign → List Token → Token → List Token → Type 0
Signs sign = Sees (kind.Sign sign)

-- one keyword
abbrev pub Keys : Keyword → List Token → Token → List Token → Type 0
Keys keyword = Sees (kind.Key keyword)
