-- Pieces between tokens, by their first bytes.
use Rattle.std.proofs.Common.{◌≡◌, ◌≢◌, ℕ, true, false, List, [], ◌∷◌, refl, ap, sym, ◌∙◌, subst, true≢false, ◌⊎◌, inl, inr}
use Rattle.lido_base.specs.Bytes.{is_white, behind}
use Rattle.lido_lexer.specs.Bytes.{is_line_byte}
use Rattle.lido_lexer.specs.Gaps.{IsGap, white, block, line, EndsFirst}
use Rattle.lido_lexer.proofs.Lists.{head_of, tail_of, no_bytes}

abbrev IsBlock : List ℕ → List ℕ → Type 0
IsBlock inner rest = (body : List ℕ) × (inner ≡ 42 ∷ body) × EndsFirst body rest

abbrev IsLine : List ℕ → List ℕ → Type 0
IsLine inner rest = (body : List ℕ) × (inner ≡ 47 ∷ body) × (rest ≡ behind is_line_byte body)

white_is : {b x : ℕ} → b ≡ x → is_white x ≡ false → is_white b ≡ true → ⊥
white_is e other passes = true≢false (sym passes ∙ ap is_white e ∙ other)

comment_cases : {bytes inner rest : List ℕ} → IsGap bytes rest → bytes ≡ 47 ∷ inner → IsBlock inner rest ⊎ IsLine inner rest
comment_cases (white is passes) at = absurd (white_is (sym (head_of (sym at ∙ is))) refl passes)
comment_cases (block is ends) at = inl (_, tail_of (sym at ∙ is), ends)
comment_cases (line is rest_is) at = inr (_, tail_of (sym at ∙ is), rest_is)

pub white_gap : {bytes rest : List ℕ} {b : ℕ} → bytes ≡ b ∷ rest → is_white b ≡ true → IsGap bytes rest
white_gap is passes = white is passes

pub block_gap : {inner body rest : List ℕ} {b : ℕ} → inner ≡ b ∷ body → b ≡ 42 → EndsFirst body rest → IsGap (47 ∷ inner) rest
block_gap {inner} {body} is star ends = block (ap (λ (l : List ℕ). 47 ∷ l) is ∙ ap (λ (x : ℕ). 47 ∷ x ∷ body) star) ends

pub line_gap : {inner body rest : List ℕ} {b : ℕ} → inner ≡ b ∷ body → b ≡ 47 → rest ≡ behind is_line_byte body → IsGap (47 ∷ inner) rest
line_gap {inner} {body} is slash rest_is = line (ap (λ (l : List ℕ). 47 ∷ l) is ∙ ap (λ (x : ℕ). 47 ∷ x ∷ body) slash) rest_is

-- no gap in front of these
pub no_bytes_no_gap : {bytes rest : List ℕ} → bytes ≡ [] → IsGap bytes rest → ⊥
no_bytes_no_gap none (white is passes) = no_bytes (sym none ∙ is)
no_bytes_no_gap none (block is ends) = no_bytes (sym none ∙ is)
no_bytes_no_gap none (line is rest_is) = no_bytes (sym none ∙ is)

by_second : {inner body rest : List ℕ} {b : ℕ} → inner ≡ b ∷ body → b ≢ 42 ⊎ (EndsFirst body rest → ⊥) → b ≢ 47 → IsBlock inner rest ⊎ IsLine inner rest → ⊥
by_second at (inl star) slash (inl (body, is, ends)) = star (head_of (sym at ∙ is))
by_second {rest = rest} at (inr none) slash (inl (body, is, ends)) = none (subst (λ (l : List ℕ). EndsFirst l rest) (sym (tail_of (sym at ∙ is))) ends)
by_second at star slash (inr (body, is, rest_is)) = slash (head_of (sym at ∙ is))

-- a slash, and no comment with what is behind it
pub second_no_gap : {inner body rest : List ℕ} {b : ℕ} → inner ≡ b ∷ body → b ≢ 42 ⊎ (EndsFirst body rest → ⊥) → b ≢ 47 → IsGap (47 ∷ inner) rest → ⊥
second_no_gap at star slash it = by_second at star slash (comment_cases it refl)
