-- A whole text and its tokens.
use Rattle.std.specs.Prelude.{◌≡◌, ◌≢◌, ◌-◌, ◌<◌, ◌≤◌, ⊤, ℕ, List, [], ◌∷◌, length, Option, Some, None, Result, Ok, Err}
pub use Rattle.lido_base.specs.Texts.{Gains}
use Rattle.lido_lexer.specs.declared.token.Token.{Token}
use Rattle.lido_lexer.specs.declared.token.LexFault.{LexFault}
use Rattle.lido_lexer.specs.declared.token.LexFault.TheVariants as fault
use Rattle.lido_lexer.specs.declared.token.TokenKind.{TokenKind}
use Rattle.lido_lexer.specs.declared.token.TokenKind.TheVariants as kind
use Rattle.lido_lexer.specs.Gaps.{IsGap}
use Rattle.lido_lexer.specs.Tokens.{Shown, IsFront, shown_kind}

-- A token as it is seen without ids: where its bytes stand, and what it says.
pub record Placed : Type 0 where
  pub from : ℕ
  pub to : ℕ
  pub what : Shown

-- A token, its text found among these.
abbrev pub shown_in : List (List ℕ) → Token → Placed
shown_in texts token = record { from = token.from; to = token.to; what = shown_kind texts token.what }

-- How many bytes of a text of this size stand before what is left of it.
abbrev pub place : ℕ → List ℕ → ℕ
place size rest = size - length rest

-- The token that begins where these bytes do, and ends where the rest begins.
abbrev pub placed : ℕ → List ℕ → Shown → List ℕ → Placed
placed size bytes shown rest = record { from = place size bytes; to = place size rest; what = shown }

-- What is left of a text of this size is these tokens with pieces between them.
pub data Lexes (size : ℕ) : List ℕ → List Placed → Type 0 where
  ended : Lexes size [] []
  after_gap : {bytes rest : List ℕ} {tokens : List Placed} → IsGap bytes rest → Lexes size rest tokens → Lexes size bytes tokens
  with_token : {bytes rest : List ℕ} {shown : Shown} {tokens : List Placed} → IsFront bytes shown rest
      → Lexes size rest tokens → Lexes size bytes (placed size bytes shown rest ∷ tokens)

-- Something is in front, and it is neither a token nor a piece that may stand between tokens.
pub record HasNoFront (bytes : List ℕ) : Type 0 where
  pub more : bytes ≢ []
  pub no_gap : (rest : List ℕ) → IsGap bytes rest → ⊥
  pub no_token : (shown : Shown) (rest : List ℕ) → IsFront bytes shown rest → ⊥

-- Tokens and pieces between them go up to this place, where neither stands in front.
pub data IsStuck (size : ℕ) : List ℕ → ℕ → Type 0 where
  here : {bytes : List ℕ} {at : ℕ} → at ≡ place size bytes → HasNoFront bytes → IsStuck size bytes at
  past_gap : {bytes rest : List ℕ} {at : ℕ} → IsGap bytes rest → IsStuck size rest at → IsStuck size bytes at
  past_token : {bytes rest : List ℕ} (shown : Shown) {at : ℕ} → IsFront bytes shown rest → IsStuck size rest at → IsStuck size bytes at

-- The tokens of a text, or the place where the first one that can't be formed begins.
unfoldable pub Lexing : List ℕ → Result (List Placed) LexFault → Type 0
Lexing bytes (Ok tokens) = Lexes (length bytes) bytes tokens
Lexing bytes (Err (fault.Lexical at)) = IsStuck (length bytes) bytes at
Lexing bytes (Err fault.Memory) = ⊥

-- These tokens, with pieces between them, are in front of what is left of a text of this size: up to its end, or up to the place
-- where something stands that is neither.
pub data IsCutInto (size : ℕ) : List ℕ → List Placed → Option ℕ → Type 0 where
  up_to_end : IsCutInto size [] [] None
  up_to : {bytes : List ℕ} → HasNoFront bytes → IsCutInto size bytes [] (Some (place size bytes))
  gap_first : {bytes rest : List ℕ} {tokens : List Placed} {stuck : Option ℕ} → IsGap bytes rest → IsCutInto size rest tokens stuck → IsCutInto size bytes tokens stuck
  token_first : {bytes rest : List ℕ} {shown : Shown} {tokens : List Placed} {stuck : Option ℕ} → IsFront bytes shown rest
      → IsCutInto size rest tokens stuck → IsCutInto size bytes (placed size bytes shown rest ∷ tokens) stuck

-- ---- what one call adds

-- The id that a token has, if it has one, is below the number of texts.
abbrev pub HasText : ℕ → TokenKind → Type 0
HasText count (kind.Word id) = id.0 < count
HasText count (kind.Str id) = id.0 < count
HasText count (kind.Literal id) = id.0 < count
HasText count _ = ⊤

-- The tokens stand one behind the other between two places, none of them empty.
abbrev pub IsInOrder : ℕ → ℕ → List Token → Type 0
IsInOrder from to [] = from ≤ to
IsInOrder from to (token ∷ tokens) = (from ≤ token.from) × (token.from < token.to) × IsInOrder token.to to tokens

-- No token is in front of what is left, and the fault names its place; or memory ran out.
abbrev pub IsRefusedAt : ℕ → List ℕ → LexFault → Type 0
IsRefusedAt size left (fault.Lexical at) = (at ≡ place size left) × ((shown : Shown) (rest : List ℕ) → IsFront left shown rest → ⊥)
IsRefusedAt size left fault.Memory = ⊤
