-- What may stand between tokens.
use Rattle.std.specs.Prelude.{◌≡◌, ◌≢◌, ℕ, List, ◌∷◌, ◌++◌, codes, IsTrue}
use Rattle.lido_base.specs.Bytes.{is_white, behind}
use Rattle.lido_lexer.specs.Bytes.{is_line_byte}

-- "*/" stands nowhere in the text.
abbrev pub HasNoEnd : List ℕ → Type 0
HasNoEnd text = (front back : List ℕ) → text ≢ front ++ (codes "*/" ++ back)

-- A body, the first "*/", and the rest.
pub record EndsFirst (bytes rest : List ℕ) : Type 0 where
  pub body : List ℕ
  pub is : bytes ≡ body ++ (codes "*/" ++ rest)
  pub first : HasNoEnd (body ++ codes "*")

-- One piece that may stand between tokens is in front of the rest: a byte of white space, a comment up to the first "*/"
-- behind its "/*", or a comment from "//" up to a line feed, which stays, or to the end of the text.
pub data IsGap (bytes rest : List ℕ) : Type 0 where
  white : {b : ℕ} → bytes ≡ b ∷ rest → IsTrue (is_white b) → IsGap bytes rest
  block : {inner : List ℕ} → bytes ≡ codes "/*" ++ inner → EndsFirst inner rest → IsGap bytes rest
  line : {inner : List ℕ} → bytes ≡ codes "//" ++ inner → rest ≡ behind is_line_byte inner → IsGap bytes rest

-- Some pieces that may stand between tokens, or none, are in front of the rest.
pub data IsPast (bytes : List ℕ) : List ℕ → Type 0 where
  at_once : IsPast bytes bytes
  one_more : {inner rest : List ℕ} → IsPast bytes inner → IsGap inner rest → IsPast bytes rest
