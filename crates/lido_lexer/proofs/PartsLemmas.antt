-- The parts of a string.
use Rattle.std.proofs.Common.{◌≡◌, ◌≢◌, ℕ, ◌<◌, ◌≤◌, Bool, true, false, cond, ◌==◌, List, [], ◌∷◌, ◌++◌, length, take, drop, Some, None, refl, ap, sym, ◌∙◌, subst, arith, true≢false, ◌⊎◌, inl, inr, append_assoc, append-nil}
use Rattle.std.proofs.lemmas.Option.{same_Some, none-some}
use Rattle.std.specs.List.{take_while}
use Rattle.std.proofs.lemmas.Bool.Decides.{nat_tests}
use Rattle.std.proofs.lemmas.List.Sums.{take_while-cons}
use Rattle.lido_lexer.specs.Bytes.{is_octal, is_plain, octal_front, value_in}
use Rattle.lido_lexer.specs.Tokens.{IsPart, plain, escape, octal, IsQuoted, escaped}
use Rattle.lido_lexer.proofs.Lists.{head_of, tail_of}
use Rattle.lido_lexer.proofs.BytesLemmas.{unequal, skip}

abbrev IsEscape : List ℕ → ℕ → List ℕ → Type 0
IsEscape inner byte rest = (letter : ℕ) × (inner ≡ letter ∷ rest) × (escaped letter ≡ Some byte)

abbrev IsOctal : List ℕ → ℕ → List ℕ → Type 0
IsOctal inner byte rest = (0 < length (octal_front inner)) × (byte ≡ value_in 8 (octal_front inner)) × (byte ≤ 255) × (rest ≡ drop (length (octal_front inner)) inner)

octal_low : (b : ℕ) → is_octal b ≡ true → 48 ≤ b
octal_low b test = grind (arith, nat_tests)

octal_high : (b : ℕ) → is_octal b ≡ true → b ≤ 55
octal_high b test = grind (arith, nat_tests)

not_escaped : (b : ℕ) → 48 ≤ b → b ≤ 55 → escaped b ≡ None
not_escaped b low high =
    skip (b == 110) _ _ _ (unequal b 110 (λ e. omega arith)) (
    skip (b == 116) _ _ _ (unequal b 116 (λ e. omega arith)) (
    skip (b == 114) _ _ _ (unequal b 114 (λ e. omega arith)) (
    skip (b == 97) _ _ _ (unequal b 97 (λ e. omega arith)) (
    skip (b == 98) _ _ _ (unequal b 98 (λ e. omega arith)) (
    skip (b == 102) _ _ _ (unequal b 102 (λ e. omega arith)) (
    skip (b == 118) _ _ _ (unequal b 118 (λ e. omega arith)) (
    skip (b == 92) _ _ _ (unequal b 92 (λ e. omega arith)) (
    skip (b == 34) _ _ _ (unequal b 34 (λ e. omega arith)) (
    skip (b == 39) _ _ _ (unequal b 39 (λ e. omega arith)) (
    skip (b == 63) _ _ _ (unequal b 63 (λ e. omega arith)) refl))))))))))

no_octal_by : (letter : ℕ) (more : List ℕ) (b : Bool) → is_octal letter ≡ b → escaped letter ≢ None → length (octal_front (letter ∷ more)) ≡ 0
no_octal_by letter more true is meant = absurd (meant (not_escaped letter (octal_low letter is) (octal_high letter is)))
no_octal_by letter more false is meant =
    ap length (take_while-cons is_octal letter (take 2 more) ∙ ap (λ (b : Bool). cond b (letter ∷ take_while is_octal (take 2 more)) []) is)

-- no digit stands where a letter with a meaning does
no_octal : {letter byte : ℕ} {inner rest : List ℕ} → inner ≡ letter ∷ rest → escaped letter ≡ Some byte → 0 < length (octal_front inner) → ⊥
no_octal {letter} {byte} {inner} {rest} at meant some =
    let none : length (octal_front (letter ∷ rest)) ≡ 0 = no_octal_by letter rest (is_octal letter) refl (λ e. none-some _ (sym e ∙ meant)) in
    let e = ap (λ (l : List ℕ). length (octal_front l)) at in
    omega (arith, none, e, some)

plain_is : {b x : ℕ} → b ≡ x → is_plain x ≡ false → is_plain b ≡ true → ⊥
plain_is e other passes = true≢false (sym passes ∙ ap is_plain e ∙ other)

backslash : {bytes inner rest : List ℕ} {byte : ℕ} → IsPart bytes byte rest → bytes ≡ 92 ∷ inner → IsEscape inner byte rest ⊎ IsOctal inner byte rest
backslash (plain is passes) at = absurd (plain_is (head_of (sym is ∙ at)) refl passes)
backslash (escape {letter} is meant) at = inl (letter, tail_of (sym at ∙ is), meant)
backslash {rest = rest} {byte = byte} (octal {inner = behind} is some value small rest_is) at =
    inr (subst (λ (l : List ℕ). (0 < length (octal_front l)) × (byte ≡ value_in 8 (octal_front l)) × (byte ≤ 255) × (rest ≡ drop (length (octal_front l)) l)) (tail_of (sym is ∙ at)) (some, value, small, rest_is))

-- ---- parts that are there

pub escape_part : {inner rest : List ℕ} {letter byte : ℕ} → inner ≡ letter ∷ rest → escaped letter ≡ Some byte → IsPart (92 ∷ inner) byte rest
escape_part {letter = letter} is meant = escape {letter = letter} (ap (λ (l : List ℕ). 92 ∷ l) is) meant

pub octal_part : {inner rest : List ℕ} {byte : ℕ} → 0 < length (octal_front inner) → byte ≡ value_in 8 (octal_front inner) → byte ≤ 255
    → rest ≡ drop (length (octal_front inner)) inner → IsPart (92 ∷ inner) byte rest
octal_part {inner} some value small rest_is = octal {inner = inner} refl some value small rest_is

-- ---- parts that are not

other_no_part : {bytes more rest : List ℕ} {b byte : ℕ} → bytes ≡ b ∷ more → is_plain b ≡ false → b ≢ 92 → IsPart bytes byte rest → ⊥
other_no_part at other slash (plain is passes) = plain_is (head_of (sym is ∙ at)) other passes
other_no_part at other slash (escape is meant) = slash (head_of (sym at ∙ is))
other_no_part at other slash (octal is some value small rest_is) = slash (head_of (sym at ∙ is))

large_by : {inner rest : List ℕ} {byte : ℕ} → 0 < length (octal_front inner) → 255 < value_in 8 (octal_front inner) → IsEscape inner byte rest ⊎ IsOctal inner byte rest → ⊥
large_by some large (inl (letter, is, meant)) = no_octal is meant some
large_by some large (inr (also, value, small, rest_is)) = omega (arith, large, value, small)

-- octal digits of too large a value
pub large_no_part : {inner rest : List ℕ} {byte : ℕ} → 0 < length (octal_front inner) → 255 < value_in 8 (octal_front inner) → IsPart (92 ∷ inner) byte rest → ⊥
large_no_part some large it = large_by some large (backslash it refl)

-- the quote ends the parts
pub quote_no_part : {bytes more rest : List ℕ} {byte : ℕ} → bytes ≡ 34 ∷ more → IsPart bytes byte rest → ⊥
quote_no_part at it = other_no_part at refl (λ (e : 34 ≡ 92). omega arith) it

-- ---- one part

one_backslash : {inner rest other : List ℕ} {a b : ℕ} → IsEscape inner a rest ⊎ IsOctal inner a rest → IsEscape inner b other ⊎ IsOctal inner b other → (a ≡ b) × (rest ≡ other)
one_backslash (inl (x, is, meant)) (inl (y, also, meant')) = (same_Some _ _ (sym meant ∙ ap escaped (head_of (sym is ∙ also)) ∙ meant'), tail_of (sym is ∙ also))
one_backslash (inl (x, is, meant)) (inr (some, value, small, rest_is)) = absurd (no_octal is meant some)
one_backslash (inr (some, value, small, rest_is)) (inl (x, is, meant)) = absurd (no_octal is meant some)
one_backslash (inr (some, value, small, rest_is)) (inr (some', value', small', rest_is')) = (value ∙ sym value', rest_is ∙ sym rest_is')

-- one part at most is in front
pub one_part : {bytes rest other : List ℕ} {a b : ℕ} → IsPart bytes a rest → IsPart bytes b other → (a ≡ b) × (rest ≡ other)
one_part (plain is passes) (plain also passes') = (head_of (sym is ∙ also), tail_of (sym is ∙ also))
one_part (plain is passes) (escape also meant) = absurd (plain_is (head_of (sym is ∙ also)) refl passes)
one_part (plain is passes) (octal also some value small rest_is) = absurd (plain_is (head_of (sym is ∙ also)) refl passes)
one_part (escape {letter} is meant) second = one_backslash (inl (letter, refl, meant)) (backslash second is)
one_part (octal is some value small rest_is) second = one_backslash (inr (some, value, small, rest_is)) (backslash second is)

-- ---- the parts of a string

-- what follows in the string
pub record LeadsOn (inner text left : List ℕ) : Type 0 where
  pub on : (more rest : List ℕ) → IsQuoted left more rest → IsQuoted inner (text ++ more) rest
  pub back : (whole rest : List ℕ) → IsQuoted inner whole rest → (more : List ℕ) × IsQuoted left more rest

pub leads_start : (inner : List ℕ) → LeadsOn inner [] inner
leads_start inner = record { on = λ more rest it. it; back = λ whole rest it. (whole, it) }

step_back : {left inner rest : List ℕ} {byte : ℕ} → IsPart left byte inner → (more : List ℕ) → IsQuoted left more rest → (others : List ℕ) × IsQuoted inner others rest
step_back it [] closed = absurd (quote_no_part closed it)
step_back {rest = rest} it (b ∷ more) (behind, first, others) = (more, subst (λ (l : List ℕ). IsQuoted l more rest) (one_part first it).1 others)

pub leads_more : {inner text left next : List ℕ} {byte : ℕ} → LeadsOn inner text left → IsPart left byte next → LeadsOn inner (text ++ byte ∷ []) next
leads_more {inner} {text} {left} {next} {byte} before it = record {
  on = λ more rest others. subst (λ (l : List ℕ). IsQuoted inner l rest) (sym (append_assoc text (byte ∷ []) more)) (before.on (byte ∷ more) rest (next, it, others));
  back = λ whole rest all. let later = before.back whole rest all in step_back it later.0 later.1;
}

leads_nowhere_by : {left : List ℕ} → ((rest : List ℕ) → left ≢ 34 ∷ rest) → ((byte : ℕ) (rest : List ℕ) → IsPart left byte rest → ⊥) → (more rest : List ℕ) → IsQuoted left more rest → ⊥
leads_nowhere_by unclosed none [] rest closed = unclosed rest closed
leads_nowhere_by unclosed none (b ∷ more) rest (behind, first, others) = none b behind first

pub leads_nowhere : {inner text left : List ℕ} → LeadsOn inner text left → ((rest : List ℕ) → left ≢ 34 ∷ rest) → ((byte : ℕ) (rest : List ℕ) → IsPart left byte rest → ⊥)
    → (whole rest : List ℕ) → IsQuoted inner whole rest → ⊥
leads_nowhere before unclosed none whole rest all = let later = before.back whole rest all in leads_nowhere_by unclosed none later.0 rest later.1

pub leads_end : {inner text left rest : List ℕ} → LeadsOn inner text left → left ≡ 34 ∷ rest → IsQuoted inner text rest
leads_end {inner} {text} {left} {rest} before closed = subst (λ (l : List ℕ). IsQuoted inner l rest) (append-nil text) (before.on [] rest closed)
