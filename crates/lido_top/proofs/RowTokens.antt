-- The tokens of the example's specification, found by a search of which each step is a step of `Lexes`.
use Rattle.std.proofs.Common.{◌≡◌, ℕ, zero, suc, ◌<◌, pos, Bool, true, false, ◌==◌, nat_le, nat_lt, List, [], ◌∷◌, length, take_while, Option, Some, None, option_map, is_some, Ok, IsTrue, refl, sym, subst, ap, map, ◌∙◌}
use Rattle.std.proofs.lemmas.Bool.{leb-true, ltb-true, eqb-true}
use Rattle.lido_lexer.specs.declared.keyword.Keyword.{Keyword}
use Rattle.lido_lexer.specs.declared.sign.Sign.{Sign as SignOf}
use Rattle.lido_lexer.specs.Bytes.{is_white, is_letter, is_name_byte, is_digit, is_literal_byte, first_is, behind, value_in}
use Rattle.lido_lexer.specs.Gaps.{white}
use Rattle.lido_lexer.specs.Keywords.{keyword_of}
use Rattle.lido_lexer.specs.Signs.{begins_comment, sign_of}
use Rattle.lido_lexer.specs.Tokens.{Shown, Word, Key, Int, Literal, Sign, IsFront}
use Rattle.lido_lexer.specs.Lexing.{Placed, placed, Lexes, ended, after_gap, with_token, Lexing, shown_in}
use Rattle.lido_lexer.specs.Tables.{LexedFrom}
use Rattle.lido_computations.specs.Functions.{known_words}
use Rattle.lido_top.specs.Verdict.{part}
use Rattle.lido_top.proofs.RowText.{job, sections}
use Rattle.lido_reader.proofs.ExampleTree.{spelled}
use Rattle.lido_top.proofs.RowTable.{table, is_interned, have_texts}

abbrev Found : ℕ → List ℕ → Type 0
Found size bytes = (tokens : List Placed) × Lexes size bytes tokens

abbrev Search : ℕ → Type 0
Search size = (bytes : List ℕ) → Option (Found size bytes)

with_gap : (size : ℕ) → Search size → (b : ℕ) (bytes : List ℕ) → IsTrue (is_white b) → Option (Found size (b ∷ bytes))
with_gap size later b bytes is = option_map (λ (found : Found size bytes). (found.0, after_gap (white refl is) found.1)) (later bytes)

with_front : (size : ℕ) → Search size → (bytes rest : List ℕ) (shown : Shown) → IsFront bytes shown rest → Option (Found size bytes)
with_front size later bytes rest shown front = option_map (λ (found : Found size rest). (placed size bytes shown rest ∷ found.0, with_token front found.1)) (later rest)

name_by : (size : ℕ) → Search size → (bytes : List ℕ) → IsTrue (first_is is_letter bytes) → (k : Option Keyword) → keyword_of (take_while is_name_byte bytes) ≡ k → Option (Found size bytes)
name_by size later bytes letter None is =
    with_front size later bytes (behind is_name_byte bytes) (Word (take_while is_name_byte bytes)) (record { begins = letter; all = refl; after = refl }, is)
name_by size later bytes letter (Some keyword) is =
    with_front size later bytes (behind is_name_byte bytes) (Key keyword) (take_while is_name_byte bytes, record { begins = letter; all = refl; after = refl }, is)

number_by : (size : ℕ) → Search size → (bytes : List ℕ) → (some : Bool) → nat_lt 0 (length (take_while is_digit bytes)) ≡ some
    → (fits : Bool) → nat_le (value_in 10 (take_while is_digit bytes)) 9223372036854775807 ≡ fits → Option (Found size bytes)
number_by size later bytes true some true fits =
    with_front size later bytes (behind is_digit bytes) (Int (pos (value_in 10 (take_while is_digit bytes))))
    (record { some = ltb-true _ _ some; value = refl; small = leb-true _ _ fits; after = refl })
number_by size later bytes true some false fits = None
number_by size later bytes false some b fits = None

closed_by : (size : ℕ) → Search size → (b : ℕ) (inner : List ℕ) → b ≡ 39 → 0 < length (take_while is_literal_byte inner) → (c : ℕ) (rest : List ℕ)
    → behind is_literal_byte inner ≡ c ∷ rest → (closed : Bool) → (c == 39) ≡ closed → Option (Found size (b ∷ inner))
closed_by size later b inner quote some c rest is true closed =
    with_front size later (b ∷ inner) rest (Literal (take_while is_literal_byte inner))
    (record { inner = inner; opened = ap (λ (x : ℕ). x ∷ inner) quote; all = refl; some = some; closed = is ∙ ap (λ (x : ℕ). x ∷ rest) (eqb-true c 39 closed) })
closed_by size later b inner quote some c rest is false closed = None

literal_by : (size : ℕ) → Search size → (b : ℕ) (inner : List ℕ) → b ≡ 39 → (some : Bool) → nat_lt 0 (length (take_while is_literal_byte inner)) ≡ some
    → (l : List ℕ) → behind is_literal_byte inner ≡ l → Option (Found size (b ∷ inner))
literal_by size later b inner quote true some [] is = None
literal_by size later b inner quote true some (c ∷ rest) is = closed_by size later b inner quote (ltb-true _ _ some) c rest is (c == 39) refl
literal_by size later b inner quote false some l is = None

sign_by : (size : ℕ) → Search size → (bytes : List ℕ) → (comment : Bool) → begins_comment bytes ≡ comment → (sign : Option SignOf) → sign_of bytes ≡ sign → Option (Found size bytes)
sign_by size later bytes false absent (Some sign) is = with_front size later bytes _ (Sign sign) (record { no_comment = absent; longest = is; behind = refl })
sign_by size later bytes false absent None is = None
sign_by size later bytes true absent sign is = None

-- one step, by what the first byte is
step_by : (size : ℕ) → Search size → (b : ℕ) (bytes : List ℕ) → (blank : Bool) → is_white b ≡ blank → (letter : Bool) → is_letter b ≡ letter → (digit : Bool) → is_digit b ≡ digit
    → (quote : Bool) → (b == 39) ≡ quote → Option (Found size (b ∷ bytes))
step_by size later b bytes true blank l letter d digit q quote = with_gap size later b bytes blank
step_by size later b bytes false blank true letter d digit q quote = name_by size later (b ∷ bytes) letter (keyword_of (take_while is_name_byte (b ∷ bytes))) refl
step_by size later b bytes false blank false letter true digit q quote =
    number_by size later (b ∷ bytes) (nat_lt 0 (length (take_while is_digit (b ∷ bytes)))) refl (nat_le (value_in 10 (take_while is_digit (b ∷ bytes))) 9223372036854775807) refl
step_by size later b bytes false blank false letter false digit true quote =
    literal_by size later b bytes (eqb-true b 39 quote) (nat_lt 0 (length (take_while is_literal_byte bytes))) refl (behind is_literal_byte bytes) refl
step_by size later b bytes false blank false letter false digit false quote = sign_by size later (b ∷ bytes) (begins_comment (b ∷ bytes)) refl (sign_of (b ∷ bytes)) refl

step : (size : ℕ) → Search size → Search size
step size later [] = Some ([], ended)
step size later (b ∷ bytes) = step_by size later b bytes (is_white b) refl (is_letter b) refl (is_digit b) refl (b == 39) refl

turns : (size : ℕ) → ℕ → Search size
turns size zero = λ bytes. None
turns size (suc n) = step size (turns size n)

held : {X : Type 0} (o : Option X) → is_some o ≡ true → X
held (Some x) is = x
held None is = absurd (cc)

lexed : Found 241 (part job sections.spec)
unfolding keyword_of sign_of turns step step_by name_by number_by literal_by closed_by sign_by with_front with_gap
lexed = held (turns 241 200 (part job sections.spec)) refl

-- the tokens by their ids are shown as those that the search found
shown : map (shown_in table) spelled ≡ lexed.0
unfolding lexed held
shown = refl

pub is_lexed : LexedFrom known_words (part job sections.spec) (Ok (table, spelled))
unfolding LexedFrom Lexing
is_lexed = record { spelled = subst (λ (tokens : List Placed). Lexes 241 (part job sections.spec) tokens) (sym shown) lexed.1; table = is_interned; ids = have_texts }
