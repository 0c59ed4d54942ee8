-- Ids and counts of what is written.
use Rattle.std.proofs.Common.{◌≡◌, ℕ, ◌+◌, ◌<◌, ◌≤◌, ◌&&◌, nat_le, pos, negsuc, ℤ, Bool, true, false, if◌then◌else◌, List, [], ◌∷◌, length, Option, Some, None, All, refl, subst, arith}
use Rattle.std.proofs.lemmas.List.{length-append}
use Rattle.std.proofs.lemmas.List.Elements.{All-head, All-tail, All-cons, All-push}
use Rattle.lido_lexer.specs.Lexing.{HasText}
use Rattle.lido_lexer.specs.declared.keyword.Keyword.{Keyword}
use Rattle.lido_lexer.specs.declared.keyword.Keyword.TheVariants as keyword
use Rattle.lido_lexer.specs.declared.sign.Sign.{Sign}
use Rattle.lido_lexer.specs.declared.sign.Sign.TheVariants as sign
use Rattle.lido_lexer.specs.declared.token.Token.{Token}
use Rattle.lido_lexer.specs.declared.token.TokenKind.{TokenKind}
use Rattle.lido_lexer.specs.declared.token.TokenKind.TheVariants as kind
use Rattle.ptg_patterns.specs.declared.marks.Mark.{Mark}
use Rattle.ptg_patterns.specs.declared.marks.Mark.TheVariants as mark
use Rattle.ptg_patterns.specs.declared.written.Item.{Item}
use Rattle.ptg_patterns.specs.declared.written.Written.{Written}
use Rattle.ptg_patterns.specs.Marks.{is_numbered, key_mark, number_mark, sign_mark, mark_of, marks, marks_up_to}
use Rattle.ptg_patterns.specs.Language.{behind_type, IsItems, end, text, bare, numbered, opened, closed, IsWritten, none, pattern, IsText}

-- ---- names have texts

abbrev pub HasName : ℕ → Mark → Type 0
HasName n (mark.Name at id) = id.0 < n
HasName n _ = Unit {0}

key_named : (n : ℕ) (k : Keyword) → HasName n (key_mark k)
key_named n keyword.Int = tt
key_named n keyword.Str = tt
key_named n _ = tt

number_named : (n : ℕ) (z : ℤ) → HasName n (number_mark z)
number_named n (pos k) = by (nat_le 1 k && nat_le k 64)
  where
    by : (b : Bool) → HasName n (if b then mark.Number k else mark.Misfit)
    by true = tt
    by false = tt
number_named n (negsuc k) = tt

sign_named : (n : ℕ) (token : Token) (s : Sign) (behind : List Token) → HasName n (sign_mark token s behind)
sign_named n token sign.Colon behind = tt
sign_named n token sign.BraceOpen behind = tt
sign_named n token sign.BraceClose behind = tt
sign_named n token sign.Dollar behind = by (is_numbered token behind)
  where
    by : (b : Bool) → HasName n (if b then mark.Numbering token.from else mark.Bare token.from)
    by true = tt
    by false = tt
sign_named n token _ behind = tt

mark_named : (n from to : ℕ) (what : TokenKind) (behind : List Token) → HasText n what → HasName n (mark_of (record { from = from; to = to; what = what }) behind)
mark_named n from to (kind.Word id) behind has = has
mark_named n from to (kind.Key k) behind has = key_named n k
mark_named n from to (kind.Int z) behind has = number_named n z
mark_named n from to (kind.Str id) behind has = tt
mark_named n from to (kind.Literal id) behind has = tt
mark_named n from to (kind.Sign s) behind has = sign_named n (record { from = from; to = to; what = kind.Sign s }) s behind

marks_named : (n : ℕ) (tokens : List Token) → All (λ (t : Token). HasText n t.what) tokens → All (HasName n) (marks tokens)
marks_named n [] all = λ k d less. absurd (omega (arith, less))
marks_named n (t ∷ tokens) all =
    let P : Token → Type 0 = λ u. HasText n u.what in
    All-cons (HasName n) (mark_of t tokens) (marks tokens) (mark_named n t.from t.to t.what tokens (All-head P t tokens all)) (marks_named n tokens (All-tail P t tokens all))

pub all_named : (n : ℕ) (tokens : List Token) (stuck : Option ℕ) → All (λ (t : Token). HasText n t.what) tokens → All (HasName n) (marks_up_to tokens stuck)
all_named n tokens None all = marks_named n tokens all
all_named n tokens (Some at) all = All-push (HasName n) (marks tokens) mark.Misfit (marks_named n tokens all) tt

type_named : (n : ℕ) (all : List Mark) → All (HasName n) all → All (HasName n) (behind_type all)
type_named n [] a = a
type_named n (mark.IntWord ∷ all) a = All-tail (HasName n) mark.IntWord all a
type_named n (mark.StringWord ∷ all) a = All-tail (HasName n) mark.StringWord all a
type_named n (m ∷ all) a = a

items_named : (n : ℕ) (brace : Bool) (all rest : List Mark) (items : List Item) → IsItems brace all items rest → All (HasName n) all → All (HasName n) rest
items_named n brace all rest items end a = a
items_named n brace all rest items (text {marks = us} p) a = items_named n brace us rest _ p (All-tail (HasName n) _ us a)
items_named n brace all rest items (bare {marks = us} p) a = items_named n brace (behind_type us) rest _ p (type_named n us (All-tail (HasName n) _ us a))
items_named n brace all rest items (numbered {at = at} {number = k} {marks = us} p) a =
    items_named n brace (behind_type us) rest _ p (type_named n us (All-tail (HasName n) (mark.Number k) us (All-tail (HasName n) (mark.Numbering at) (mark.Number k ∷ us) a)))
items_named n brace all rest items (opened {marks = us} p) a = items_named n true us rest items p (All-tail (HasName n) _ us a)
items_named n brace all rest items (closed {marks = us} p) a = items_named n false us rest items p (All-tail (HasName n) _ us a)

pub written_named : (n : ℕ) (all : List Mark) (patterns : List Written) → IsWritten all patterns → All (HasName n) all → All (λ (w : Written). w.name.0 < n) patterns
written_named n all patterns none a = λ k d less. absurd (omega (arith, less))
written_named n all patterns (pattern {at = at} {id = id} {marks = us} {rest = rest} {items = items} {patterns = more} p few q) a =
    let P : Written → Type 0 = λ w. w.name.0 < n in
    let behind = All-tail (HasName n) mark.Colon us (All-tail (HasName n) (mark.Name at id) (mark.Colon ∷ us) a) in
    All-cons P (record { at = at; name = id; items = items }) more (All-head (HasName n) (mark.Name at id) (mark.Colon ∷ us) a) (written_named n rest more q (items_named n false us rest items p behind))

-- ---- no more items than marks

type_few : (all : List Mark) → length (behind_type all) ≤ length all
type_few [] = omega arith
type_few (mark.IntWord ∷ all) = omega arith
type_few (mark.StringWord ∷ all) = omega arith
type_few (m ∷ all) = omega arith

items_few : (brace : Bool) (all rest : List Mark) (items : List Item) → IsItems brace all items rest → length items + length rest ≤ length all
items_few brace all rest items end = omega arith
items_few brace all rest items (text {marks = us} {items = more} p) = omega (arith, items_few brace us rest more p)
items_few brace all rest items (bare {marks = us} {items = more} p) = omega (arith, items_few brace (behind_type us) rest more p, type_few us)
items_few brace all rest items (numbered {marks = us} {items = more} p) = omega (arith, items_few brace (behind_type us) rest more p, type_few us)
items_few brace all rest items (opened {marks = us} p) = omega (arith, items_few true us rest items p)
items_few brace all rest items (closed {marks = us} p) = omega (arith, items_few false us rest items p)

pub written_few : (size : ℕ) (all : List Mark) (patterns : List Written) → IsWritten all patterns → length all ≤ size → All (λ (w : Written). length w.items ≤ size) patterns
written_few size all patterns none few = λ k d less. absurd (omega (arith, less))
written_few size all patterns (pattern {at = at} {id = id} {marks = us} {rest = rest} {items = items} {patterns = more} p f q) few =
    let count = items_few false us rest items p in
    All-cons (λ (w : Written). length w.items ≤ size) (record { at = at; name = id; items = items }) more (omega (arith, count, few)) (written_few size rest more q (omega (arith, count, few)))

length-marks : (tokens : List Token) → length (marks tokens) ≡ length tokens
length-marks [] = refl
length-marks (t ∷ tokens) = omega (arith, length-marks tokens)

pub few_marks : (tokens : List Token) (stuck : Option ℕ) → length (marks_up_to tokens stuck) ≤ length tokens + 1
few_marks tokens None = omega (arith, length-marks tokens)
few_marks tokens (Some at) = omega (arith, length-marks tokens, length-append (marks tokens) (mark.Misfit ∷ []))

-- what is read is what is written
pub found_is : (all : List Mark) (found : List Written) → IsText all → ((patterns : List Written) → IsWritten all patterns → patterns ≡ found) → IsWritten all found
found_is all found fits reading = subst (IsWritten all) (reading fits.0 fits.1) fits.1
