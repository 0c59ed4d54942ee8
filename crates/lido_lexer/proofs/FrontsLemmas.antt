-- Tokens and pieces between them, by their first byte.
use Rattle.std.proofs.Common.{◌≡◌, ℕ, ℤ, ◌<◌, Bool, true, false, cond, ◌==◌, ◌||◌, if◌then◌else◌, List, [], ◌∷◌, ◌++◌, length, drop, refl, ap, sym, ◌∙◌, subst, arith, true≢false, ◌⊎◌, inl, inr}
use Rattle.std.proofs.lemmas.Bool.{or_cases}
use Rattle.std.proofs.lemmas.Option.{same_Some, none-some}
use Rattle.std.specs.List.{take_while}
use Rattle.std.proofs.lemmas.Bool.Decides.{nat_tests}
use Rattle.std.proofs.lemmas.List.Sums.{take_while-cons}
use Rattle.lido_base.specs.Bytes.{is_white, is_letter, is_digit, first_is, behind}
use Rattle.lido_lexer.specs.Bytes.{is_literal_byte, is_line_byte}
use Rattle.lido_lexer.specs.Gaps.{IsGap, white, block, line, EndsFirst}
use Rattle.lido_lexer.specs.Keywords.{keyword_of}
use Rattle.lido_lexer.specs.Signs.{IsSign, sign_spelling, begins_comment}
use Rattle.lido_lexer.specs.Tokens.{Shown, Word, Key, Int, Str, Literal, Sign, IsName, IsNumber, IsString, IsLiteral, IsQuoted, IsFront}
use Rattle.lido_lexer.specs.declared.sign.Sign.{Sign as Signs}
use Rattle.lido_lexer.specs.declared.sign.Sign.TheVariants.{Produces, Arrow, AndAnd, OrOr, EqEq, NotEq, LessEq, GreaterEq, Colon, Semicolon, Comma, Dot, ParenOpen, ParenClose, BracketOpen, BracketClose, BraceOpen, BraceClose, Equal, Plus, Minus, Star, Slash, Percent, Bang, Less, Greater, Bar, Dollar}
use Rattle.lido_lexer.proofs.Lists.{head_of, tail_of}
use Rattle.lido_lexer.proofs.BytesLemmas.{same, skip, chosen}
use Rattle.lido_lexer.proofs.Ends.{one_end}
use Rattle.lido_lexer.proofs.PartsLemmas.{one_part, quote_no_part}
use Rattle.lido_lexer.proofs.SignsLemmas.{sign_stands}

-- where no reader finds its token, no token is in front
pub no_front : {bytes : List ℕ} → ((name rest : List ℕ) → IsName bytes name rest → ⊥) → ((z : ℤ) (rest : List ℕ) → IsNumber bytes z rest → ⊥)
    → ((sign : Signs) (rest : List ℕ) → IsSign bytes sign rest → ⊥) → ((text rest : List ℕ) → IsLiteral bytes text rest → ⊥)
    → ((text rest : List ℕ) → IsString bytes text rest → ⊥) → (shown : Shown) (rest : List ℕ) → IsFront bytes shown rest → ⊥
no_front name number sign literal string (Word text) rest it = name text rest it.0
no_front name number sign literal string (Key keyword) rest it = name it.0 rest it.1
no_front name number sign literal string (Int z) rest it = number z rest it
no_front name number sign literal string (Str text) rest it = string text rest it
no_front name number sign literal string (Literal text) rest it = literal text rest it
no_front name number sign literal string (Sign it_is) rest it = sign it_is rest it

-- the kind of a byte, by a number
abbrev class : ℕ → ℕ
class b = if is_letter b then 1 else if is_digit b then 2 else if b == 34 then 3 else if b == 39 then 4 else if is_white b then 6 else 5

abbrev class_of : List ℕ → ℕ
class_of [] = 0
class_of (b ∷ bytes) = class b

abbrev class_shown : Shown → ℕ
class_shown (Word name) = 1
class_shown (Key keyword) = 1
class_shown (Int z) = 2
class_shown (Str text) = 3
class_shown (Literal text) = 4
class_shown (Sign sign) = 5

digit_no_letter : (b : ℕ) → is_digit b ≡ true → is_letter b ≡ false
digit_no_letter b test = grind (arith, nat_tests)

letter_class : (bytes : List ℕ) → first_is is_letter bytes ≡ true → class_of bytes ≡ 1
letter_class [] test = absurd (true≢false (sym test))
letter_class (b ∷ bytes) test = chosen (is_letter b) 1 _ test

digit_class : (b : ℕ) → is_digit b ≡ true → class b ≡ 2
digit_class b test = skip (is_letter b) 1 _ 2 (digit_no_letter b test) (chosen (is_digit b) 2 _ test)

digits_class_by : (b : ℕ) (bytes : List ℕ) (d : Bool) → is_digit b ≡ d → 0 < length (cond d (b ∷ take_while is_digit bytes) []) → class b ≡ 2
digits_class_by b bytes true is some = digit_class b is
digits_class_by b bytes false is some = absurd (omega (arith, some))

digits_class : (bytes : List ℕ) → 0 < length (take_while is_digit bytes) → class_of bytes ≡ 2
digits_class [] some = absurd (omega (arith, some))
digits_class (b ∷ bytes) some = digits_class_by b bytes (is_digit b) refl (subst (λ (l : List ℕ). 0 < length l) (take_while-cons is_digit b bytes) some)

white_class_at : (b k : ℕ) → (b == k) ≡ true → class k ≡ 6 → class b ≡ 6
white_class_at b k test is = ap class (same test) ∙ is

white_last : (b : ℕ) → (b == 13) ≡ true ⊎ (b == 10) ≡ true → class b ≡ 6
white_last b (inl is) = white_class_at b 13 is refl
white_last b (inr is) = white_class_at b 10 is refl

white_fourth : (b : ℕ) → (b == 12) ≡ true ⊎ ((b == 13) || (b == 10)) ≡ true → class b ≡ 6
white_fourth b (inl is) = white_class_at b 12 is refl
white_fourth b (inr is) = white_last b (or_cases (b == 13) (b == 10) is)

white_third : (b : ℕ) → (b == 9) ≡ true ⊎ ((b == 12) || ((b == 13) || (b == 10))) ≡ true → class b ≡ 6
white_third b (inl is) = white_class_at b 9 is refl
white_third b (inr is) = white_fourth b (or_cases (b == 12) ((b == 13) || (b == 10)) is)

white_second : (b : ℕ) → (b == 32) ≡ true ⊎ ((b == 9) || ((b == 12) || ((b == 13) || (b == 10)))) ≡ true → class b ≡ 6
white_second b (inl is) = white_class_at b 32 is refl
white_second b (inr is) = white_third b (or_cases (b == 9) ((b == 12) || ((b == 13) || (b == 10))) is)

white_class : (b : ℕ) → is_white b ≡ true → class b ≡ 6
white_class b is = white_second b (or_cases (b == 32) ((b == 9) || ((b == 12) || ((b == 13) || (b == 10)))) is)

sign_class : (sign : Signs) (rest : List ℕ) → class_of (sign_spelling sign ++ rest) ≡ 5
sign_class Produces rest = refl
sign_class Arrow rest = refl
sign_class AndAnd rest = refl
sign_class OrOr rest = refl
sign_class EqEq rest = refl
sign_class NotEq rest = refl
sign_class LessEq rest = refl
sign_class GreaterEq rest = refl
sign_class Colon rest = refl
sign_class Semicolon rest = refl
sign_class Comma rest = refl
sign_class Dot rest = refl
sign_class ParenOpen rest = refl
sign_class ParenClose rest = refl
sign_class BracketOpen rest = refl
sign_class BracketClose rest = refl
sign_class BraceOpen rest = refl
sign_class BraceClose rest = refl
sign_class Equal rest = refl
sign_class Plus rest = refl
sign_class Minus rest = refl
sign_class Star rest = refl
sign_class Slash rest = refl
sign_class Percent rest = refl
sign_class Bang rest = refl
sign_class Less rest = refl
sign_class Greater rest = refl
sign_class Bar rest = refl
sign_class Dollar rest = refl

sign_front_class : {bytes rest : List ℕ} {sign : Signs} → IsSign bytes sign rest → class_of bytes ≡ 5
sign_front_class {bytes} {rest} {sign} it = ap class_of (sign_stands bytes sign it.longest) ∙ sign_class sign (drop (length (sign_spelling sign)) bytes)

front_class : (bytes rest : List ℕ) (shown : Shown) → IsFront bytes shown rest → class_of bytes ≡ class_shown shown
front_class bytes rest (Word name) it = letter_class bytes it.0.begins
front_class bytes rest (Key keyword) it = letter_class bytes it.1.begins
front_class bytes rest (Int z) it = digits_class bytes it.some
front_class bytes rest (Str text) it = ap class_of it.opened
front_class bytes rest (Literal text) it = ap class_of it.opened
front_class bytes rest (Sign sign) it = sign_front_class it

-- ---- one token

one_quoted : (a b bytes rest other : List ℕ) → IsQuoted bytes a rest → IsQuoted bytes b other → (a ≡ b) × (rest ≡ other)
one_quoted [] [] bytes rest other closed also = (refl, tail_of (sym closed ∙ also))
one_quoted [] (y ∷ b) bytes rest other closed (inner, part, others) = absurd (quote_no_part closed part)
one_quoted (x ∷ a) [] bytes rest other (inner, part, others) closed = absurd (quote_no_part closed part)
one_quoted (x ∷ a) (y ∷ b) bytes rest other (inner, part, others) (inner', part', others') =
    let first = one_part part' part in
    let later = one_quoted a b inner rest other others (subst (λ (l : List ℕ). IsQuoted l b other) first.1 others') in
    ((λ j. sym first.0 j ∷ later.0 j), later.1)

one_string : {bytes a b rest other : List ℕ} → IsString bytes a rest → IsString bytes b other → (a ≡ b) × (rest ≡ other)
one_string {a = a} {b = b} {rest = rest} {other = other} s t = one_quoted a b s.inner rest other s.parts (subst (λ (l : List ℕ). IsQuoted l b other) (tail_of (sym t.opened ∙ s.opened)) t.parts)

one_literal : {bytes a b rest other : List ℕ} → IsLiteral bytes a rest → IsLiteral bytes b other → (a ≡ b) × (rest ≡ other)
one_literal s t =
    let inner = tail_of (sym s.opened ∙ t.opened) in
    (s.all ∙ ap (take_while is_literal_byte) inner ∙ sym t.all, tail_of (sym s.closed ∙ ap (behind is_literal_byte) inner ∙ t.closed))

one_sign : {bytes rest other : List ℕ} {a b : Signs} → IsSign bytes a rest → IsSign bytes b other → (a ≡ b) × (rest ≡ other)
one_sign {bytes} s t =
    let same = same_Some _ _ (sym s.longest ∙ t.longest) in
    (same, s.behind ∙ ap (λ (sign : Signs). drop (length (sign_spelling sign)) bytes) same ∙ sym t.behind)

one_name : {bytes a b rest other : List ℕ} → IsName bytes a rest → IsName bytes b other → (a ≡ b) × (rest ≡ other)
one_name s t = (s.all ∙ sym t.all, s.after ∙ sym t.after)

pub one_front : (a b : Shown) (bytes rest other : List ℕ) → IsFront bytes a rest → IsFront bytes b other → (a ≡ b) × (rest ≡ other)
one_front (Word x) (Word y) bytes rest other s t = let e = one_name s.0 t.0 in (ap Word e.0, e.1)
one_front (Word x) (Key k) bytes rest other s t = absurd (none-some _ (sym s.1 ∙ ap keyword_of (one_name s.0 t.1).0 ∙ t.2))
one_front (Key k) (Word x) bytes rest other s t = absurd (none-some _ (sym t.1 ∙ ap keyword_of (one_name t.0 s.1).0 ∙ s.2))
one_front (Key k) (Key l) bytes rest other s t = let e = one_name s.1 t.1 in (ap Key (same_Some _ _ (sym s.2 ∙ ap keyword_of e.0 ∙ t.2)), e.1)
one_front (Int x) (Int y) bytes rest other s t = (ap Int (s.value ∙ sym t.value), s.after ∙ sym t.after)
one_front (Str x) (Str y) bytes rest other s t = let e = one_string s t in (ap Str e.0, e.1)
one_front (Literal x) (Literal y) bytes rest other s t = let e = one_literal s t in (ap Literal e.0, e.1)
one_front (Sign x) (Sign y) bytes rest other s t = let e = one_sign s t in (ap Sign e.0, e.1)
one_front a b bytes rest other s t = let e = sym (front_class bytes rest a s) ∙ front_class bytes other b t in absurd (omega (arith, e))

no_class : (shown : Shown) → 0 ≡ class_shown shown → ⊥
no_class (Word name) e = omega (arith, e)
no_class (Key keyword) e = omega (arith, e)
no_class (Int z) e = omega (arith, e)
no_class (Str text) e = omega (arith, e)
no_class (Literal text) e = omega (arith, e)
no_class (Sign sign) e = omega (arith, e)

pub no_bytes_no_front : (rest : List ℕ) (shown : Shown) → IsFront [] shown rest → ⊥
no_bytes_no_front rest shown it = no_class shown (front_class [] rest shown it)

-- ---- one piece between tokens

white_apart : (b : ℕ) → class b ≡ 5 → is_white b ≡ true → ⊥
white_apart b c passes = let e = sym c ∙ white_class b passes in omega (arith, e)

pub one_gap : {bytes rest other : List ℕ} → IsGap bytes rest → IsGap bytes other → rest ≡ other
one_gap (white is passes) (white also passes') = tail_of (sym is ∙ also)
one_gap (white {b} is passes) (block also ends) = absurd (white_apart b (ap class_of (sym is ∙ also)) passes)
one_gap (white {b} is passes) (line also rest_is) = absurd (white_apart b (ap class_of (sym is ∙ also)) passes)
one_gap (block is ends) (white {b} also passes) = absurd (white_apart b (ap class_of (sym also ∙ is)) passes)
one_gap {other = other} (block is ends) (block also ends') = one_end ends (subst (λ (l : List ℕ). EndsFirst l other) (tail_of (tail_of (sym also ∙ is))) ends')
one_gap (block is ends) (line also rest_is) = let e = head_of (tail_of (sym is ∙ also)) in absurd (omega (arith, e))
one_gap (line is rest_is) (white {b} also passes) = absurd (white_apart b (ap class_of (sym also ∙ is)) passes)
one_gap (line is rest_is) (block also ends) = let e = head_of (tail_of (sym is ∙ also)) in absurd (omega (arith, e))
one_gap (line is rest_is) (line also rest_is') = rest_is ∙ ap (behind is_line_byte) (tail_of (tail_of (sym is ∙ also))) ∙ sym rest_is'

-- ---- never both

abbrev BeginsGap : List ℕ → Type 0
BeginsGap bytes = (class_of bytes ≡ 6) ⊎ ((class_of bytes ≡ 5) × (begins_comment bytes ≡ true))

apart_by : (shown : Shown) (bytes rest : List ℕ) (n : ℕ) → class_of bytes ≡ n → n ≡ 6 ⊎ ((n ≡ 5) × (begins_comment bytes ≡ true)) → IsFront bytes shown rest → ⊥
apart_by (Sign sign) bytes rest n c (inr both) it = true≢false (sym both.1 ∙ it.no_comment)
apart_by (Sign sign) bytes rest n c (inl e) it = let f = sym c ∙ front_class bytes rest (Sign sign) it in omega (arith, e, f)
apart_by (Word name) bytes rest n c (inl e) it = let f = sym c ∙ front_class bytes rest (Word name) it in omega (arith, e, f)
apart_by (Word name) bytes rest n c (inr e) it = let f = sym c ∙ front_class bytes rest (Word name) it in omega (arith, e.0, f)
apart_by (Key keyword) bytes rest n c (inl e) it = let f = sym c ∙ front_class bytes rest (Key keyword) it in omega (arith, e, f)
apart_by (Key keyword) bytes rest n c (inr e) it = let f = sym c ∙ front_class bytes rest (Key keyword) it in omega (arith, e.0, f)
apart_by (Int z) bytes rest n c (inl e) it = let f = sym c ∙ front_class bytes rest (Int z) it in omega (arith, e, f)
apart_by (Int z) bytes rest n c (inr e) it = let f = sym c ∙ front_class bytes rest (Int z) it in omega (arith, e.0, f)
apart_by (Str text) bytes rest n c (inl e) it = let f = sym c ∙ front_class bytes rest (Str text) it in omega (arith, e, f)
apart_by (Str text) bytes rest n c (inr e) it = let f = sym c ∙ front_class bytes rest (Str text) it in omega (arith, e.0, f)
apart_by (Literal text) bytes rest n c (inl e) it = let f = sym c ∙ front_class bytes rest (Literal text) it in omega (arith, e, f)
apart_by (Literal text) bytes rest n c (inr e) it = let f = sym c ∙ front_class bytes rest (Literal text) it in omega (arith, e.0, f)

gap_class : {bytes rest : List ℕ} → IsGap bytes rest → BeginsGap bytes
gap_class (white {b} is passes) = inl (ap class_of is ∙ white_class b passes)
gap_class (block is ends) = inr (ap class_of is, ap begins_comment is)
gap_class (line is rest_is) = inr (ap class_of is, ap begins_comment is)

pub gap_no_front : (shown : Shown) (bytes rest other : List ℕ) → IsGap bytes rest → IsFront bytes shown other → ⊥
gap_no_front shown bytes rest other gap it = apart_by shown bytes other (class_of bytes) refl (gap_class gap) it
