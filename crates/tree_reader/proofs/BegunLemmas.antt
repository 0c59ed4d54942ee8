-- What the next byte makes of a part that is begun.
use Rattle.std.proofs.Common.{◌≡◌, ◌≢◌, ℕ, ℤ, ◌+◌, ◌-◌, ◌*◌, ◌<◌, ◌≤◌, ◌↔◌, Bool, true, false, List, [], ◌∷◌, length, refl, ap, sym, ◌∙◌, subst, arith, pos, if◌then◌else◌}
use Rattle.std.specs.Prelude.{FitsSigned}
use Rattle.std.specs.List.{take_while}
use Rattle.std.specs.Int.{w64}
use Rattle.lido_lexer.specs.Tokens.{IsName, IsQuoted}
use Rattle.lido_lexer.proofs.Lists.{head_of, tail_of, no_bytes}
use Rattle.std.proofs.lemmas.Bool.Decides.{nat_tests}
use Rattle.lido_lexer.proofs.BytesLemmas.{unequal}
use Rattle.sum_trees.specs.Bytes.{is_white, is_digit, is_minus, behind, said_after, minus}
use Rattle.tree_reader.specs.Language.{IsInt, IsFront, StandsAt, Spells, IsOneNode}
use Rattle.tree_reader.specs.Scanning.{Begun}
use Rattle.tree_reader.specs.declared.part.Part.{Part}
use Rattle.tree_reader.specs.declared.part.Part.TheVariants as part
use Rattle.tree_reader.specs.declared.scanner.Phase.TheVariants as phase
use Rattle.sum_trees.proofs.FrontsOfBytes.{behind_skip, behind_stop, taken_more, taken_none}

first_of : {p q : Part} {ps qs : List Part} → p ∷ ps ≡ q ∷ qs → p ≡ q
first_of e = cc

-- ---- between two parts

pub spells_same : (end : ℕ) (parts : List Part) (bytes others : List ℕ) → behind is_white bytes ≡ behind is_white others → Spells end parts bytes → Spells end parts others
spells_same end [] bytes others e white = sym e ∙ white
spells_same end (p ∷ parts) bytes others e (rest, front, more) = (rest, subst (λ (l : List ℕ). IsFront end l p rest) e front, more)

-- white space
pub white_goes : (end b : ℕ) (more : List ℕ) (parts : List Part) → is_white b ≡ true → Spells end parts more ↔ Spells end parts (b ∷ more)
white_goes end b more parts white =
    (λ s. spells_same end parts more (b ∷ more) (sym (behind_skip is_white b more white)) s, λ s. spells_same end parts (b ∷ more) more (behind_skip is_white b more white) s)

-- the first part begins with the byte
abbrev Splits : ℕ → ℕ → List ℕ → List Part → Type 0
Splits end b more parts = (p : Part) × (later : List Part) × (rest : List ℕ) × (parts ≡ p ∷ later) × IsFront end (b ∷ more) p rest × Spells end later rest

split : (end b : ℕ) (more : List ℕ) (parts : List Part) → is_white b ≡ false → Spells end parts (b ∷ more) → Splits end b more parts
split end b more [] other white = absurd (no_bytes (sym (sym (behind_stop is_white b more other) ∙ white)))
split end b more (p ∷ parts) other (rest, front, later) = (p, parts, rest, refl, subst (λ (l : List ℕ). IsFront end l p rest) (behind_stop is_white b more other) front, later)

join : (end b : ℕ) (more : List ℕ) (p : Part) (later : List Part) (rest : List ℕ) → is_white b ≡ false → IsFront end (b ∷ more) p rest → Spells end later rest → Spells end (p ∷ later) (b ∷ more)
join end b more p later rest other front spells = (rest, subst (λ (l : List ℕ). IsFront end l p rest) (sym (behind_stop is_white b more other)) front, spells)

-- ---- what a part that is begun by the byte is

-- a bracket
pub open_goes : (end at : ℕ) (held more : List ℕ) (parts : List Part) → at + length (40 ∷ more) ≡ end → Begun (phase.Opened at) held end more parts ↔ Spells end parts (40 ∷ more)
open_goes end at held more parts place = (on, λ s. back (split end 40 more parts refl s))
  where
    on : Begun (phase.Opened at) held end more parts → Spells end parts (40 ∷ more)
    on (name_at, name, beyond, stands, is, (coordinates, rest, later, e, has, spells)) =
        subst (λ (l : List Part). Spells end l (40 ∷ more)) (sym e) (rest, (more, beyond, refl, place, stands, is, has), spells)

    back : Splits end 40 more parts → Begun (phase.Opened at) held end more parts
    back (part.Begin from name_at name coordinates, later, rest, e, (inner, beyond, is, stands, name_stands, named, has), spells) =
        let same : from ≡ at = omega (arith, place, stands) in (
          name_at,
          name,
          beyond,
          subst (λ (l : List ℕ). StandsAt end name_at (behind is_white l)) (sym (tail_of is)) name_stands,
          subst (λ (l : List ℕ). IsName (behind is_white l) name beyond) (sym (tail_of is)) named,
          (coordinates, rest, later, e ∙ ap (λ (n : ℕ). part.Begin n name_at name coordinates ∷ later) same, has, spells),
        )
    back (part.Int from z, later, rest, e, (stands, int), spells) = absurd (omega (arith, int.some))
    back (part.Str from text, later, rest, e, (stands, string), spells) = absurd (let wrong = head_of string.opened in omega (arith, wrong))
    back (part.End from, later, rest, e, (stands, is), spells) = absurd (let wrong = head_of is in omega (arith, wrong))

-- a minus
pub minus_goes : (end at : ℕ) (held more : List ℕ) (parts : List Part) → at + length (45 ∷ more) ≡ end → Begun (phase.Minus at) held end more parts ↔ Spells end parts (45 ∷ more)
minus_goes end at held more parts place = (on, λ s. back (split end 45 more parts refl s))
  where
    on : Begun (phase.Minus at) held end more parts → Spells end parts (45 ∷ more)
    on (z, later, e, some, value, fits, spells) = subst (λ (l : List Part). Spells end l (45 ∷ more)) (sym e)
        (behind is_digit more, (place, record { some = some; value = value; fits = fits; after = refl }), spells)

    back : Splits end 45 more parts → Begun (phase.Minus at) held end more parts
    back (part.Begin from name_at name coordinates, later, rest, e, (inner, beyond, is, stands, name_stands, named, has), spells) = absurd (let wrong = head_of is in omega (arith, wrong))
    back (part.Int from z, later, rest, e, (stands, int), spells) =
        let same : from ≡ at = omega (arith, place, stands) in
        (z, later, e ∙ ap (λ (n : ℕ). part.Int n z ∷ later) same, int.some, int.value, int.fits, subst (λ (l : List ℕ). Spells end later l) int.after spells)
    back (part.Str from text, later, rest, e, (stands, string), spells) = absurd (let wrong = head_of string.opened in omega (arith, wrong))
    back (part.End from, later, rest, e, (stands, is), spells) = absurd (let wrong = head_of is in omega (arith, wrong))

-- a digit
digit_low : (b : ℕ) → is_digit b ≡ true → 48 ≤ b
digit_low b test = grind (arith, nat_tests)

digit_high : (b : ℕ) → is_digit b ≡ true → b ≤ 57
digit_high b test = grind (arith, nat_tests)

digit_not_white : (b : ℕ) → is_digit b ≡ true → is_white b ≡ false
digit_not_white b test = grind (arith, nat_tests)

unsigned_is : (b : ℕ) (more : List ℕ) → is_digit b ≡ true → is_minus b ≡ false
unsigned_is b more digit = unequal b 45 (λ e. omega (arith, digit_low b digit))

abbrev UnsignedIs : Bool → ℕ → List ℕ → ℤ → List ℕ → Type 0
UnsignedIs v b more z rest = (z ≡ (if v then minus (said_after 0 (take_while is_digit (if v then more else b ∷ more))) else pos (said_after 0 (take_while is_digit (if v then more else b ∷ more)))))
    × (rest ≡ behind is_digit (if v then more else b ∷ more))

int_parts : (b : ℕ) (more : List ℕ) (z : ℤ) (rest : List ℕ) → IsInt (b ∷ more) z rest → UnsignedIs (is_minus b) b more z rest
int_parts b more z rest int = (int.value, int.after)

abbrev IsDigitFront : ℕ → List ℕ → ℤ → List ℕ → Type 0
IsDigitFront b more z rest = (z ≡ pos (said_after (b - 48) (take_while is_digit more))) × (rest ≡ behind is_digit more)

digits_said : (b : ℕ) (more : List ℕ) → is_digit b ≡ true → said_after 0 (take_while is_digit (b ∷ more)) ≡ said_after (b - 48) (take_while is_digit more)
digits_said b more digit = ap (λ (l : List ℕ). said_after 0 l) (taken_more is_digit b more digit)
    ∙ (let e : 0 * 10 + (b - 48) ≡ b - 48 = omega arith in ap (λ (n : ℕ). said_after n (take_while is_digit more)) e)

digit_front : (b : ℕ) (more : List ℕ) (z : ℤ) (rest : List ℕ) → is_digit b ≡ true → IsInt (b ∷ more) z rest → IsDigitFront b more z rest
digit_front b more z rest digit int =
    let parts = subst (λ (v : Bool). UnsignedIs v b more z rest) (unsigned_is b more digit) (int_parts b more z rest int) in
    (parts.0 ∙ ap (λ (n : ℕ). pos n) (digits_said b more digit), parts.1 ∙ behind_skip is_digit b more digit)

some_digit : (b : ℕ) (more : List ℕ) → is_digit b ≡ true → 0 < length (take_while is_digit (b ∷ more))
some_digit b more digit = subst (λ (l : List ℕ). 0 < length l) (sym (taken_more is_digit b more digit)) (omega arith)

abbrev HasSome : Bool → ℕ → List ℕ → Type 0
HasSome v b more = 0 < length (take_while is_digit (if v then more else b ∷ more))

front_digit : (b : ℕ) (more : List ℕ) (z : ℤ) (rest : List ℕ) → is_digit b ≡ true → FitsSigned w64 z → IsDigitFront b more z rest → IsInt (b ∷ more) z rest
front_digit b more z rest digit fits (value, after) =
    let parts = subst (λ (v : Bool). UnsignedIs v b more z rest) (sym (unsigned_is b more digit))
    (value ∙ sym (ap (λ (n : ℕ). pos n) (digits_said b more digit)), after ∙ sym (behind_skip is_digit b more digit)) in
    record { some = subst (λ (v : Bool). HasSome v b more) (sym (unsigned_is b more digit)) (some_digit b more digit); value = parts.0; fits = fits; after = parts.1 }

pub digit_goes : (end at b : ℕ) (held more : List ℕ) (parts : List Part) → is_digit b ≡ true → at + length (b ∷ more) ≡ end
    → Begun (phase.Digits at false (b - 48)) held end more parts ↔ Spells end parts (b ∷ more)
digit_goes end at b held more parts digit place = (on, λ s. back (split end b more parts (digit_not_white b digit) s))
  where
    on : Begun (phase.Digits at false (b - 48)) held end more parts → Spells end parts (b ∷ more)
    on (z, later, e, value, fits, spells) = subst (λ (l : List Part). Spells end l (b ∷ more)) (sym e)
        (join end b more (part.Int at z) later (behind is_digit more) (digit_not_white b digit) (place, front_digit b more z (behind is_digit more) digit fits (value, refl)) spells)

    back : Splits end b more parts → Begun (phase.Digits at false (b - 48)) held end more parts
    back (part.Begin from name_at name coordinates, later, rest, e, (inner, beyond, is, stands, name_stands, named, has), spells) = absurd (let wrong = head_of is in omega (arith, wrong, digit_low b digit))
    back (part.Int from z, later, rest, e, (stands, int), spells) =
        let same : from ≡ at = omega (arith, place, stands) in
        let front = digit_front b more z rest digit int in
        (z, later, e ∙ ap (λ (n : ℕ). part.Int n z ∷ later) same, front.0, int.fits, subst (λ (l : List ℕ). Spells end later l) front.1 spells)
    back (part.Str from text, later, rest, e, (stands, string), spells) = absurd (let wrong = head_of string.opened in omega (arith, wrong, digit_low b digit))
    back (part.End from, later, rest, e, (stands, is), spells) = absurd (let wrong = head_of is in omega (arith, wrong, digit_low b digit))

-- a double quote
pub quote_goes : (end at : ℕ) (more : List ℕ) (parts : List Part) → at + length (34 ∷ more) ≡ end → Begun (phase.Text at) [] end more parts ↔ Spells end parts (34 ∷ more)
quote_goes end at more parts place = (on, λ s. back (split end 34 more parts refl s))
  where
    on : Begun (phase.Text at) [] end more parts → Spells end parts (34 ∷ more)
    on (text, rest, later, e, quoted, spells) = subst (λ (l : List Part). Spells end l (34 ∷ more)) (sym e) (rest, (place, record { inner = more; opened = refl; parts = quoted }), spells)

    back : Splits end 34 more parts → Begun (phase.Text at) [] end more parts
    back (part.Begin from name_at name coordinates, later, rest, e, (inner, beyond, is, stands, name_stands, named, has), spells) = absurd (let wrong = head_of is in omega (arith, wrong))
    back (part.Int from z, later, rest, e, (stands, int), spells) = absurd (omega (arith, int.some))
    back (part.Str from text, later, rest, e, (stands, string), spells) =
        let same : from ≡ at = omega (arith, place, stands) in
        (text, rest, later, e ∙ ap (λ (n : ℕ). part.Str n text ∷ later) same, subst (λ (l : List ℕ). IsQuoted l text rest) (sym (tail_of string.opened)) string.parts, spells)
    back (part.End from, later, rest, e, (stands, is), spells) = absurd (let wrong = head_of is in omega (arith, wrong))

-- the part is given, and others follow
abbrev pub GivesPart : (List Part → Type 0) → Part → List Part → Type 0
GivesPart L p parts = (later : List Part) × (parts ≡ p ∷ later) × L later

-- a closing bracket
pub close_goes : (end at : ℕ) (more : List ℕ) (parts : List Part) → at + length (41 ∷ more) ≡ end → GivesPart (λ later. Spells end later more) (part.End at) parts ↔ Spells end parts (41 ∷ more)
close_goes end at more parts place = (on, λ s. back (split end 41 more parts refl s))
  where
    on : GivesPart (λ later. Spells end later more) (part.End at) parts → Spells end parts (41 ∷ more)
    on (later, e, spells) = subst (λ (l : List Part). Spells end l (41 ∷ more)) (sym e) (more, (place, refl), spells)

    back : Splits end 41 more parts → GivesPart (λ later. Spells end later more) (part.End at) parts
    back (part.Begin from name_at name coordinates, later, rest, e, (inner, beyond, is, stands, name_stands, named, has), spells) = absurd (let wrong = head_of is in omega (arith, wrong))
    back (part.Int from z, later, rest, e, (stands, int), spells) = absurd (omega (arith, int.some))
    back (part.Str from text, later, rest, e, (stands, string), spells) = absurd (let wrong = head_of string.opened in omega (arith, wrong))
    back (part.End from, later, rest, e, (stands, is), spells) =
        let same : from ≡ at = omega (arith, place, stands) in
        (later, e ∙ ap (λ (n : ℕ). part.End n ∷ later) same, subst (λ (l : List ℕ). Spells end later l) (sym (tail_of is)) spells)

-- any other byte
abbrev HasSomeOf : Bool → Bool → ℕ → List ℕ → Type 0
HasSomeOf v d b more = 0 < length (take_while is_digit (if v then more else b ∷ more))

int_starts : (b : ℕ) (more : List ℕ) (z : ℤ) (rest : List ℕ) → is_minus b ≡ false → is_digit b ≡ false → IsInt (b ∷ more) z rest → ⊥
int_starts b more z rest sign digit int =
    let some : 0 < length (take_while is_digit (b ∷ more)) = subst (λ (v : Bool). HasSome v b more) sign int.some in
    omega (arith, some, ap length (taken_none is_digit b more digit))

pub nothing_starts : (end b : ℕ) (more : List ℕ) (parts : List Part) → is_white b ≡ false → b ≢ 40 → b ≢ 45 → b ≢ 34 → b ≢ 41 → is_digit b ≡ false → Spells end parts (b ∷ more) → ⊥
nothing_starts end b more parts other bracket sign quote close digit s = at_split (split end b more parts other s)
  where
    at_split : Splits end b more parts → ⊥
    at_split (part.Begin from name_at name coordinates, later, rest, e, (inner, beyond, is, stands, name_stands, named, has), spells) = bracket (head_of is)
    at_split (part.Int from z, later, rest, e, (stands, int), spells) = int_starts b more z rest (unequal b 45 sign) digit int
    at_split (part.Str from text, later, rest, e, (stands, string), spells) = quote (head_of string.opened)
    at_split (part.End from, later, rest, e, (stands, is), spells) = close (head_of is)

-- where no node may follow, only white space may
pub nothing_left : (end b : ℕ) (more : List ℕ) (parts : List Part) → is_white b ≡ false → parts ≡ [] → Spells end parts (b ∷ more) → ⊥
nothing_left end b more [] other none s = no_bytes (sym (sym (behind_stop is_white b more other) ∙ s))
nothing_left end b more (p ∷ parts) other none s = cc

-- before the first node only white space and a bracket may stand
pub no_first : (end b : ℕ) (more : List ℕ) (parts : List Part) → is_white b ≡ false → b ≢ 40 → IsOneNode parts → Spells end parts (b ∷ more) → ⊥
no_first end b more [] white bracket (at, name_at, name, coordinates, below, last, e) s = absurd (cc)
no_first end b more (p ∷ parts) white bracket (at, name_at, name, coordinates, below, last, e) (rest, front, later) =
    let is : p ≡ part.Begin at name_at name coordinates = first_of e in
    let begun = subst (λ (q : Part). IsFront end (b ∷ more) q rest) is (subst (λ (l : List ℕ). IsFront end l p rest) (behind_stop is_white b more white) front) in
    bracket (head_of begun.2)
