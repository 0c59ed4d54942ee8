-- The table of texts once a text is read: what it was before and what the text says decide of it.
use Rattle.std.specs.Prelude.{◌≡◌, ℕ, List, [], ◌∷◌, ◌++◌, length, map, All, Result, Ok, Err}
unfoldable pub use Rattle.lido_base.specs.Texts.{interned}
use Rattle.lido_lexer.specs.declared.token.Token.{Token}
use Rattle.lido_lexer.specs.declared.token.LexFault.{LexFault}
use Rattle.lido_lexer.specs.Tokens.{Shown, Word, Str, Literal}
use Rattle.lido_lexer.specs.Lexing.{Placed, Lexing, HasText, shown_in}

-- The text that a token has: a name, a string or a literal has one.
abbrev pub text_of : Shown → List (List ℕ)
text_of (Word text) = text ∷ []
text_of (Str text) = text ∷ []
text_of (Literal text) = text ∷ []
text_of _ = []

-- The texts of tokens, in order.
abbrev pub texts_in : List Placed → List (List ℕ)
texts_in [] = []
texts_in (token ∷ tokens) = text_of token.what ++ texts_in tokens

-- Read with this later table, these are the tokens that the text spells, and the table has their texts behind those before.
pub record IsLexed (texts : List (List ℕ)) (bytes : List ℕ) (later : List (List ℕ)) (tokens : List Token) : Type 0 where
  pub spelled : Lexing bytes (Ok (map (shown_in later) tokens))
  pub table : later ≡ interned texts (texts_in (map (shown_in later) tokens))
  pub ids : All (λ (token : Token). HasText (length later) token.what) tokens

-- The later table and the tokens, or why there are none.
unfoldable pub LexedFrom : List (List ℕ) → List ℕ → Result (List (List ℕ) × List Token) LexFault → Type 0
LexedFrom texts bytes (Ok (later, tokens)) = IsLexed texts bytes later tokens
LexedFrom texts bytes (Err fault) = Lexing bytes (Err fault)
