-- What the next byte makes of a name, a number or a string that is begun.
use Rattle.std.proofs.Common.{◌≡◌, ◌≢◌, ℕ, ℤ, ◌+◌, ◌-◌, ◌*◌, ◌<◌, ◌≤◌, ◌↔◌, ◌⊎◌, inl, inr, Bool, true, false, List, [], ◌∷◌, ◌++◌, length, Some, refl, ap, sym, ◌∙◌, subst, arith, append_assoc, append-nil, suc, zero, true≢false, drop, take}
use Rattle.std.specs.Prelude.{FitsSigned}
use Rattle.std.specs.List.{take_while}
use Rattle.std.specs.Int.{w64}
use Rattle.std.proofs.lemmas.Bool.{cases_lt}
use Rattle.std.proofs.lemmas.Bool.Decides.{nat_tests}
use Rattle.lido_lexer.specs.Bytes.{is_octal, is_plain, octal_front, value_in}
use Rattle.lido_lexer.specs.Tokens.{IsName, IsPart, plain, escape, octal, IsQuoted, escaped}
use Rattle.lido_lexer.proofs.Lists.{head_of, tail_of}
use Rattle.lido_lexer.proofs.PartsLemmas.{escape_part, octal_part, large_no_part, quote_no_part, one_part}
use Rattle.sum_trees.specs.Bytes.{is_white, is_digit, is_letter, is_name_byte, behind, said_after, minus}
use Rattle.tree_reader.specs.Language.{StandsAt, Spells}
use Rattle.tree_reader.specs.Scanning.{Begun, BeginsNode, signed, octal_after}
use Rattle.tree_reader.specs.declared.part.Part.{Part}
use Rattle.tree_reader.specs.declared.part.Part.TheVariants as part
use Rattle.tree_reader.specs.declared.scanner.Phase.TheVariants as phase
use Rattle.sum_trees.proofs.Said.{said_grows}
use Rattle.sum_trees.proofs.FrontsOfBytes.{behind_skip, behind_stop, taken_more, taken_none}
use Rattle.tree_reader.proofs.BegunLemmas.{GivesPart}

-- ---- behind a bracket

abbrev IsNamed : ℕ → ℕ → List ℕ → List ℕ → List ℕ → Type 0
IsNamed end name_at name rest bytes = StandsAt end name_at bytes × IsName bytes name rest

pub opened_white : (end at b : ℕ) (held also more : List ℕ) (parts : List Part) → is_white b ≡ true → Begun (phase.Opened at) also end more parts ↔ Begun (phase.Opened at) held end (b ∷ more) parts
opened_white end at b held also more parts white = (on, back)
  where
    on : Begun (phase.Opened at) also end more parts → Begun (phase.Opened at) held end (b ∷ more) parts
    on (name_at, name, rest, stands, named, node) =
        let moved = subst (λ (l : List ℕ). IsNamed end name_at name rest l) (sym (behind_skip is_white b more white)) (stands, named) in
        (name_at, name, rest, moved.0, moved.1, node)

    back : Begun (phase.Opened at) held end (b ∷ more) parts → Begun (phase.Opened at) also end more parts
    back (name_at, name, rest, stands, named, node) =
        let moved = subst (λ (l : List ℕ). IsNamed end name_at name rest l) (behind_skip is_white b more white) (stands, named) in
        (name_at, name, rest, moved.0, moved.1, node)

-- a node with this name, and what stands behind the name
begins_same : (at name_at : ℕ) (name : List ℕ) (end : ℕ) (text rest bytes : List ℕ) (parts : List Part) → text ≡ name → rest ≡ bytes → BeginsNode at name_at text end rest parts → BeginsNode at name_at name end bytes parts
begins_same at name_at name end text rest bytes parts same after node =
    subst (λ (l : List ℕ). BeginsNode at name_at l end bytes parts) same (subst (λ (l : List ℕ). BeginsNode at name_at text end l parts) after node)

letter_not_white : (b : ℕ) → is_letter b ≡ true → is_white b ≡ false
letter_not_white b test = grind (arith, nat_tests)

letter_in_name : (b : ℕ) → is_letter b ≡ true → is_name_byte b ≡ true
letter_in_name b test = grind (arith, nat_tests)

-- the first letter of the name, at place i
pub opened_letter : (end at i b : ℕ) (held more : List ℕ) (parts : List Part) → is_letter b ≡ true → i + length (b ∷ more) ≡ end
    → Begun (phase.Name at i) (b ∷ []) end more parts ↔ Begun (phase.Opened at) held end (b ∷ more) parts
opened_letter end at i b held more parts letter place = (on, back)
  where
    stop : behind is_white (b ∷ more) ≡ b ∷ more
    stop = behind_stop is_white b more (letter_not_white b letter)

    on : Begun (phase.Name at i) (b ∷ []) end more parts → Begun (phase.Opened at) held end (b ∷ more) parts
    on node =
        let named : IsName (b ∷ more) (b ∷ take_while is_name_byte more) (behind is_name_byte more) = record {
          begins = letter;
          all = sym (taken_more is_name_byte b more (letter_in_name b letter));
          after = sym (behind_skip is_name_byte b more (letter_in_name b letter));
        } in
        let moved = subst (λ (l : List ℕ). IsNamed end i (b ∷ take_while is_name_byte more) (behind is_name_byte more) l) (sym stop) (place, named) in
        (i, b ∷ take_while is_name_byte more, behind is_name_byte more, moved.0, moved.1, node)

    back : Begun (phase.Opened at) held end (b ∷ more) parts → Begun (phase.Name at i) (b ∷ []) end more parts
    back (name_at, name, rest, stands, named, node) =
        let moved = subst (λ (l : List ℕ). IsNamed end name_at name rest l) stop (stands, named) in
        let same : name_at ≡ i = omega (arith, place, moved.0) in
        let text : name ≡ b ∷ take_while is_name_byte more = moved.1.all ∙ taken_more is_name_byte b more (letter_in_name b letter) in
        begins_same at i (b ∷ take_while is_name_byte more) end name rest (behind is_name_byte more) parts text (moved.1.after ∙ behind_skip is_name_byte b more (letter_in_name b letter))
        (subst (λ (n : ℕ). BeginsNode at n name end rest parts) same node)

-- ---- in a name

pub name_more : (end at name_at b : ℕ) (held more : List ℕ) (parts : List Part) → is_name_byte b ≡ true
    → Begun (phase.Name at name_at) (held ++ b ∷ []) end more parts ↔ Begun (phase.Name at name_at) held end (b ∷ more) parts
name_more end at name_at b held more parts passes = (
  begins_same at name_at (held ++ take_while is_name_byte (b ∷ more)) end ((held ++ b ∷ []) ++ take_while is_name_byte more) (behind is_name_byte more) (behind is_name_byte (b ∷ more)) parts (sym text) (sym after),
  begins_same at name_at ((held ++ b ∷ []) ++ take_while is_name_byte more) end (held ++ take_while is_name_byte (b ∷ more)) (behind is_name_byte (b ∷ more)) (behind is_name_byte more) parts text after,
)
  where
    text : held ++ take_while is_name_byte (b ∷ more) ≡ (held ++ b ∷ []) ++ take_while is_name_byte more
    text = ap (λ (l : List ℕ). held ++ l) (taken_more is_name_byte b more passes) ∙ sym (append_assoc held (b ∷ []) (take_while is_name_byte more))

    after : behind is_name_byte (b ∷ more) ≡ behind is_name_byte more
    after = behind_skip is_name_byte b more passes

-- the name is whole
pub name_ends : (end at name_at b : ℕ) (held more : List ℕ) (parts : List Part) → is_name_byte b ≡ false
    → Begun (phase.Named at name_at) held end (b ∷ more) parts ↔ Begun (phase.Name at name_at) held end (b ∷ more) parts
name_ends end at name_at b held more parts fails = (
  begins_same at name_at (held ++ take_while is_name_byte (b ∷ more)) end held (b ∷ more) (behind is_name_byte (b ∷ more)) parts (sym text) (sym after),
  begins_same at name_at held end (held ++ take_while is_name_byte (b ∷ more)) (behind is_name_byte (b ∷ more)) (b ∷ more) parts text after,
)
  where
    text : held ++ take_while is_name_byte (b ∷ more) ≡ held
    text = ap (λ (l : List ℕ). held ++ l) (taken_none is_name_byte b more fails) ∙ append-nil held

    after : behind is_name_byte (b ∷ more) ≡ b ∷ more
    after = behind_stop is_name_byte b more fails

-- ---- in a number

abbrev IsSaid : ℕ → List ℕ → ℤ → Bool → ℕ → Type 0
IsSaid value digits z negative n = z ≡ signed negative (said_after value digits)

pub minus_digit : (end at b : ℕ) (held also more : List ℕ) (parts : List Part) → is_digit b ≡ true
    → Begun (phase.Digits at true (b - 48)) also end more parts ↔ Begun (phase.Minus at) held end (b ∷ more) parts
minus_digit end at b held also more parts digit = (on, back)
  where
    taken : take_while is_digit (b ∷ more) ≡ b ∷ take_while is_digit more
    taken = taken_more is_digit b more digit

    said : said_after 0 (take_while is_digit (b ∷ more)) ≡ said_after (b - 48) (take_while is_digit more)
    said = ap (λ (l : List ℕ). said_after 0 l) taken ∙ (let e : 0 * 10 + (b - 48) ≡ b - 48 = omega arith in ap (λ (n : ℕ). said_after n (take_while is_digit more)) e)

    on : Begun (phase.Digits at true (b - 48)) also end more parts → Begun (phase.Minus at) held end (b ∷ more) parts
    on (z, later, e, value, fits, spells) = (
      z,
      later,
      e,
      subst (λ (l : List ℕ). 0 < length l) (sym taken) (omega arith),
      value ∙ ap (λ (n : ℕ). minus n) (sym said),
      fits,
      subst (λ (l : List ℕ). Spells end later l) (sym (behind_skip is_digit b more digit)) spells,
    )

    back : Begun (phase.Minus at) held end (b ∷ more) parts → Begun (phase.Digits at true (b - 48)) also end more parts
    back (z, later, e, some, value, fits, spells) = (z, later, e, value ∙ ap (λ (n : ℕ). minus n) said, fits, subst (λ (l : List ℕ). Spells end later l) (behind_skip is_digit b more digit) spells)

pub digits_more : (end at b value : ℕ) (negative : Bool) (held also more : List ℕ) (parts : List Part) → is_digit b ≡ true
    → Begun (phase.Digits at negative (value * 10 + (b - 48))) also end more parts ↔ Begun (phase.Digits at negative value) held end (b ∷ more) parts
digits_more end at b value negative held also more parts digit = (on, back)
  where
    said : said_after value (take_while is_digit (b ∷ more)) ≡ said_after (value * 10 + (b - 48)) (take_while is_digit more)
    said = ap (λ (l : List ℕ). said_after value l) (taken_more is_digit b more digit)

    on : Begun (phase.Digits at negative (value * 10 + (b - 48))) also end more parts → Begun (phase.Digits at negative value) held end (b ∷ more) parts
    on (z, later, e, says, fits, spells) = (z, later, e, says ∙ ap (λ (n : ℕ). signed negative n) (sym said), fits, subst (λ (l : List ℕ). Spells end later l) (sym (behind_skip is_digit b more digit)) spells)

    back : Begun (phase.Digits at negative value) held end (b ∷ more) parts → Begun (phase.Digits at negative (value * 10 + (b - 48))) also end more parts
    back (z, later, e, says, fits, spells) = (z, later, e, says ∙ ap (λ (n : ℕ). signed negative n) said, fits, subst (λ (l : List ℕ). Spells end later l) (behind_skip is_digit b more digit) spells)

fits_smaller : (negative : Bool) (m n : ℕ) → m ≤ n → FitsSigned w64 (signed negative n) → FitsSigned w64 (signed negative m)
fits_smaller false m n less fits = record { sfits = omega (arith, fits.sfits) }
fits_smaller true zero n less fits = record { sfits = omega arith }
fits_smaller true (suc m) zero less fits = absurd (omega arith)
fits_smaller true (suc m) (suc n) less fits = record { sfits = omega (arith, fits.sfits) }

-- a digit that makes the number too large
pub digits_too_many : (end at b value : ℕ) (negative : Bool) (held more : List ℕ) (parts : List Part) → is_digit b ≡ true
    → (FitsSigned w64 (signed negative (value * 10 + (b - 48))) → ⊥) → Begun (phase.Digits at negative value) held end (b ∷ more) parts → ⊥
digits_too_many end at b value negative held more parts digit large left =
    let (z, later, e, says, fits, spells) = (digits_more end at b value negative held held more parts digit).1 left in
    large (fits_smaller negative (value * 10 + (b - 48)) (said_after (value * 10 + (b - 48)) (take_while is_digit more)) (said_grows (value * 10 + (b - 48)) (take_while is_digit more))
    (subst (λ (x : ℤ). FitsSigned w64 x) says fits))

pub digits_end : (end at b value : ℕ) (negative : Bool) (held more : List ℕ) (parts : List Part) → is_digit b ≡ false → FitsSigned w64 (signed negative value)
    → GivesPart (λ later. Spells end later (b ∷ more)) (part.Int at (signed negative value)) parts ↔ Begun (phase.Digits at negative value) held end (b ∷ more) parts
digits_end end at b value negative held more parts other fits = (on, back)
  where
    said : said_after value (take_while is_digit (b ∷ more)) ≡ value
    said = ap (λ (l : List ℕ). said_after value l) (taken_none is_digit b more other)

    on : GivesPart (λ later. Spells end later (b ∷ more)) (part.Int at (signed negative value)) parts → Begun (phase.Digits at negative value) held end (b ∷ more) parts
    on (later, e, spells) = (signed negative value, later, e, ap (λ (n : ℕ). signed negative n) (sym said), fits, subst (λ (l : List ℕ). Spells end later l) (sym (behind_stop is_digit b more other)) spells)

    back : Begun (phase.Digits at negative value) held end (b ∷ more) parts → GivesPart (λ later. Spells end later (b ∷ more)) (part.Int at (signed negative value)) parts
    back (z, later, e, says, small, spells) =
        (later, e ∙ ap (λ (x : ℤ). part.Int at x ∷ later) (says ∙ ap (λ (n : ℕ). signed negative n) said), subst (λ (l : List ℕ). Spells end later l) (behind_stop is_digit b more other) spells)

-- ---- in a string

pub text_ends : (end at : ℕ) (held more : List ℕ) (parts : List Part)
    → GivesPart (λ later. Spells end later more) (part.Str at held) parts ↔ Begun (phase.Text at) held end (34 ∷ more) parts
text_ends end at held more parts = (on, back)
  where
    on : GivesPart (λ later. Spells end later more) (part.Str at held) parts → Begun (phase.Text at) held end (34 ∷ more) parts
    on (later, e, spells) = ([], more, later, e ∙ ap (λ (l : List ℕ). part.Str at l ∷ later) (sym (append-nil held)), refl, spells)

    back : Begun (phase.Text at) held end (34 ∷ more) parts → GivesPart (λ later. Spells end later more) (part.Str at held) parts
    back ([], rest, later, e, closed, spells) = (later, e ∙ ap (λ (l : List ℕ). part.Str at l ∷ later) (append-nil held), subst (λ (l : List ℕ). Spells end later l) (sym (tail_of closed)) spells)
    back (x ∷ text, rest, later, e, (inner, first, quoted), spells) = absurd (quote_no_part refl first)

pub text_slash : (end at : ℕ) (held more : List ℕ) (parts : List Part) → Begun (phase.Escape at) held end more parts ↔ Begun (phase.Text at) held end (92 ∷ more) parts
text_slash end at held more parts = (on, back)
  where
    on : Begun (phase.Escape at) held end more parts → Begun (phase.Text at) held end (92 ∷ more) parts
    on (byte, inner, text, rest, later, e, first, quoted, spells) = (byte ∷ text, rest, later, e, (inner, first, quoted), spells)

    back : Begun (phase.Text at) held end (92 ∷ more) parts → Begun (phase.Escape at) held end more parts
    back ([], rest, later, e, closed, spells) = absurd (let wrong = head_of closed in omega (arith, wrong))
    back (byte ∷ text, rest, later, e, (inner, first, quoted), spells) = (byte, inner, text, rest, later, e, first, quoted, spells)

-- the text goes on behind a part that stands for a byte
abbrev Goes : ℕ → ℕ → ℕ → List ℕ → List ℕ → List Part → Type 0
Goes end at byte held inner parts = (text : List ℕ) × (rest : List ℕ) × (later : List Part) × (parts ≡ part.Str at (held ++ byte ∷ text) ∷ later) × IsQuoted inner text rest × Spells end later rest

goes_on : (end at byte : ℕ) (held inner : List ℕ) (parts : List Part) → Begun (phase.Text at) (held ++ byte ∷ []) end inner parts → Goes end at byte held inner parts
goes_on end at byte held inner parts (text, rest, later, e, quoted, spells) =
    (text, rest, later, e ∙ ap (λ (l : List ℕ). part.Str at l ∷ later) (append_assoc held (byte ∷ []) text), quoted, spells)

goes_back : (end at byte : ℕ) (held inner : List ℕ) (parts : List Part) → Goes end at byte held inner parts → Begun (phase.Text at) (held ++ byte ∷ []) end inner parts
goes_back end at byte held inner parts (text, rest, later, e, quoted, spells) =
    (text, rest, later, e ∙ ap (λ (l : List ℕ). part.Str at l ∷ later) (sym (append_assoc held (byte ∷ []) text)), quoted, spells)

pub text_plain : (end at b : ℕ) (held more : List ℕ) (parts : List Part) → is_plain b ≡ true
    → Begun (phase.Text at) (held ++ b ∷ []) end more parts ↔ Begun (phase.Text at) held end (b ∷ more) parts
text_plain end at b held more parts passes = (on, back)
  where
    on : Begun (phase.Text at) (held ++ b ∷ []) end more parts → Begun (phase.Text at) held end (b ∷ more) parts
    on left = let (text, rest, later, e, quoted, spells) = goes_on end at b held more parts left in (b ∷ text, rest, later, e, (more, plain refl passes, quoted), spells)

    back : Begun (phase.Text at) held end (b ∷ more) parts → Begun (phase.Text at) (held ++ b ∷ []) end more parts
    back ([], rest, later, e, closed, spells) = absurd (true≢false (sym passes ∙ ap is_plain (head_of closed)))
    back (x ∷ text, rest, later, e, (inner, first, quoted), spells) =
        let same = one_part first (plain refl passes) in
        goes_back end at b held more parts (text, rest, later, e ∙ ap (λ (y : ℕ). part.Str at (held ++ y ∷ text) ∷ later) same.0, subst (λ (l : List ℕ). IsQuoted l text rest) same.1 quoted, spells)

no_part : {bytes rest more : List ℕ} {b byte : ℕ} → bytes ≡ b ∷ more → b ≢ 92 → is_plain b ≡ false → IsPart bytes byte rest → ⊥
no_part at slash other (plain is passes) = true≢false (sym passes ∙ ap is_plain (head_of (sym is ∙ at)) ∙ other)
no_part at slash other (escape is meant) = slash (head_of (sym at ∙ is))
no_part at slash other (octal is some value small rest_is) = slash (head_of (sym at ∙ is))

pub text_stuck : (end at b : ℕ) (held more : List ℕ) (parts : List Part) → b ≢ 34 → b ≢ 92 → is_plain b ≡ false → Begun (phase.Text at) held end (b ∷ more) parts → ⊥
text_stuck end at b held more parts quote slash other ([], rest, later, e, closed, spells) = quote (head_of closed)
text_stuck end at b held more parts quote slash other (x ∷ text, rest, later, e, (inner, first, quoted), spells) = no_part refl slash other first

-- ---- behind a backslash

pub escape_goes : (end at b byte : ℕ) (held more : List ℕ) (parts : List Part) → escaped b ≡ Some byte
    → Begun (phase.Text at) (held ++ byte ∷ []) end more parts ↔ Begun (phase.Escape at) held end (b ∷ more) parts
escape_goes end at b byte held more parts meant = (on, back)
  where
    here : IsPart (92 ∷ b ∷ more) byte more
    here = escape_part {letter = b} refl meant

    on : Begun (phase.Text at) (held ++ byte ∷ []) end more parts → Begun (phase.Escape at) held end (b ∷ more) parts
    on left = let (text, rest, later, e, quoted, spells) = goes_on end at byte held more parts left in (byte, more, text, rest, later, e, here, quoted, spells)

    back : Begun (phase.Escape at) held end (b ∷ more) parts → Begun (phase.Text at) (held ++ byte ∷ []) end more parts
    back (x, inner, text, rest, later, e, first, quoted, spells) =
        let same = one_part first here in
        goes_back end at byte held more parts (text, rest, later, e ∙ ap (λ (y : ℕ). part.Str at (held ++ y ∷ text) ∷ later) same.0, subst (λ (l : List ℕ). IsQuoted l text rest) same.1 quoted, spells)

octal_taken : (b : ℕ) (more : List ℕ) → is_octal b ≡ true → octal_front (b ∷ more) ≡ b ∷ take_while is_octal (take 2 more)
octal_taken b more digit = taken_more is_octal b (take 2 more) digit

octal_said : (b : ℕ) (digits : List ℕ) → value_in 8 (b ∷ digits) ≡ octal_after (b - 48) digits
octal_said b digits = let e : 0 * 8 + (b - 48) ≡ b - 48 = omega arith in ap (λ (n : ℕ). octal_after n digits) e

-- the first octal digit
pub octal_goes : (end at b : ℕ) (held more : List ℕ) (parts : List Part) → is_octal b ≡ true
    → Begun (phase.Octal at 2 (b - 48)) held end more parts ↔ Begun (phase.Escape at) held end (b ∷ more) parts
octal_goes end at b held more parts digit = (on, λ left. back (cases_lt 255 (octal_after (b - 48) digits)) left)
  where
    digits : List ℕ
    digits = take_while is_octal (take 2 more)

    front : octal_front (b ∷ more) ≡ b ∷ take_while is_octal (take 2 more)
    front = octal_taken b more digit

    value : octal_after (b - 48) (take_while is_octal (take 2 more)) ≡ value_in 8 (octal_front (b ∷ more))
    value = sym (ap (λ (l : List ℕ). value_in 8 l) front ∙ octal_said b (take_while is_octal (take 2 more)))

    some : 0 < length (octal_front (b ∷ more))
    some = subst (λ (l : List ℕ). 0 < length l) (sym front) (omega arith)

    behind_digits : drop (length (take_while is_octal (take 2 more))) more ≡ drop (length (octal_front (b ∷ more))) (b ∷ more)
    behind_digits = sym (ap (λ (l : List ℕ). drop (length l) (b ∷ more)) front)

    on : Begun (phase.Octal at 2 (b - 48)) held end more parts → Begun (phase.Escape at) held end (b ∷ more) parts
    on (byte, inner, text, rest, later, e, is, small, after, quoted, spells) = (byte, inner, text, rest, later, e, octal_part some (is ∙ value) small (after ∙ behind_digits), quoted, spells)

    back : (255 < octal_after (b - 48) (take_while is_octal (take 2 more))) ⊎ (octal_after (b - 48) (take_while is_octal (take 2 more)) ≤ 255)
        → Begun (phase.Escape at) held end (b ∷ more) parts → Begun (phase.Octal at 2 (b - 48)) held end more parts
    back (inl large) (byte, inner, text, rest, later, e, first, quoted, spells) = absurd (large_no_part some (subst (λ (n : ℕ). 255 < n) value large) first)
    back (inr small) (byte, inner, text, rest, later, e, first, quoted, spells) =
        let here : IsPart (92 ∷ b ∷ more) (octal_after (b - 48) (take_while is_octal (take 2 more))) (drop (length (take_while is_octal (take 2 more))) more) = octal_part some value small behind_digits in
        let same = one_part first here in
        (byte, inner, text, rest, later, e, same.0, subst (λ (n : ℕ). n ≤ 255) (sym same.0) small, same.1, quoted, spells)

-- one octal digit more
pub octal_more : (end at b count value : ℕ) (held more : List ℕ) (parts : List Part) → is_octal b ≡ true
    → Begun (phase.Octal at count (value * 8 + (b - 48))) held end more parts ↔ Begun (phase.Octal at (suc count) value) held end (b ∷ more) parts
octal_more end at b count value held more parts digit = (on, back)
  where
    taken : take_while is_octal (take (suc count) (b ∷ more)) ≡ b ∷ take_while is_octal (take count more)
    taken = taken_more is_octal b (take count more) digit

    on : Begun (phase.Octal at count (value * 8 + (b - 48))) held end more parts → Begun (phase.Octal at (suc count) value) held end (b ∷ more) parts
    on (byte, inner, text, rest, later, e, is, small, after, quoted, spells) = (
      byte,
      inner,
      text,
      rest,
      later,
      e,
      is ∙ ap (λ (l : List ℕ). octal_after value l) (sym taken),
      small,
      after ∙ ap (λ (l : List ℕ). drop (length l) (b ∷ more)) (sym taken),
      quoted,
      spells,
    )

    back : Begun (phase.Octal at (suc count) value) held end (b ∷ more) parts → Begun (phase.Octal at count (value * 8 + (b - 48))) held end more parts
    back (byte, inner, text, rest, later, e, is, small, after, quoted, spells) = (
      byte,
      inner,
      text,
      rest,
      later,
      e,
      is ∙ ap (λ (l : List ℕ). octal_after value l) taken,
      small,
      after ∙ ap (λ (l : List ℕ). drop (length l) (b ∷ more)) taken,
      quoted,
      spells,
    )

octal_grows : (n : ℕ) (digits : List ℕ) → n ≤ octal_after n digits
octal_grows n [] = omega arith
octal_grows n (b ∷ digits) = omega (arith, octal_grows (n * 8 + (b - 48)) digits)

pub octal_too_large : (end at b count value : ℕ) (held more : List ℕ) (parts : List Part) → is_octal b ≡ true → (value * 8 + (b - 48) ≤ 255 → ⊥)
    → Begun (phase.Octal at (suc count) value) held end (b ∷ more) parts → ⊥
octal_too_large end at b count value held more parts digit large left =
    let (byte, inner, text, rest, later, e, is, small, after, quoted, spells) = (octal_more end at b count value held more parts digit).1 left in
    large (omega (arith, is, small, octal_grows (value * 8 + (b - 48)) (take_while is_octal (take count more))))

-- no octal digit more
pub octal_ends : (end at b count value : ℕ) (held more : List ℕ) (parts : List Part) → take_while is_octal (take count (b ∷ more)) ≡ [] → value ≤ 255
    → Begun (phase.Text at) (held ++ value ∷ []) end (b ∷ more) parts ↔ Begun (phase.Octal at count value) held end (b ∷ more) parts
octal_ends end at b count value held more parts none small = (on, back)
  where
    on : Begun (phase.Text at) (held ++ value ∷ []) end (b ∷ more) parts → Begun (phase.Octal at count value) held end (b ∷ more) parts
    on left = let (text, rest, later, e, quoted, spells) = goes_on end at value held (b ∷ more) parts left in
        (value, b ∷ more, text, rest, later, e, ap (λ (l : List ℕ). octal_after value l) (sym none), small, ap (λ (l : List ℕ). drop (length l) (b ∷ more)) (sym none), quoted, spells)

    back : Begun (phase.Octal at count value) held end (b ∷ more) parts → Begun (phase.Text at) (held ++ value ∷ []) end (b ∷ more) parts
    back (byte, inner, text, rest, later, e, is, fits, after, quoted, spells) =
        let same : byte ≡ value = is ∙ ap (λ (l : List ℕ). octal_after value l) none in
        goes_back end at value held (b ∷ more) parts (
          text,
          rest,
          later,
          e ∙ ap (λ (y : ℕ). part.Str at (held ++ y ∷ text) ∷ later) same,
          subst (λ (l : List ℕ). IsQuoted l text rest) (after ∙ ap (λ (l : List ℕ). drop (length l) (b ∷ more)) none) quoted,
          spells,
        )
