-- What the next byte makes of the coordinates behind a name.
use Rattle.std.proofs.Common.{◌≡◌, ◌≢◌, ℕ, ◌+◌, ◌-◌, ◌*◌, ◌<◌, ◌≤◌, ◌↔◌, ◌⊎◌, inl, inr, true, false, List, ◌∷◌, length, Some, None, refl, ap, sym, ◌∙◌, subst, arith}
use Rattle.std.specs.List.{take_while}
use Rattle.lido_lexer.proofs.Lists.{head_of, tail_of}
use Rattle.sum_trees.specs.Bytes.{is_white, is_digit, said_after}
use Rattle.sum_trees.proofs.Said.{said_grows}
use Rattle.sum_trees.proofs.FrontsOfBytes.{behind_skip, behind_stop, taken_more, taken_none}
use Rattle.tree_reader.specs.Language.{AreCoordinates, IsNumber, Spells}
use Rattle.tree_reader.specs.Scanning.{Begun, IsNumberAfter, IsDigitOn, IsBegunNumber}
use Rattle.tree_reader.specs.declared.part.Part.{Part}
use Rattle.tree_reader.specs.declared.part.Part.TheVariants as part
use Rattle.tree_reader.specs.declared.scanner.Phase.TheVariants as phase
use Rattle.tree_reader.proofs.BegunLemmas.{GivesPart, white_goes, nothing_starts}

-- ---- behind a name

pub named_white : (end at name_at b : ℕ) (held more : List ℕ) (parts : List Part) → is_white b ≡ true
    → Begun (phase.Named at name_at) held end more parts ↔ Begun (phase.Named at name_at) held end (b ∷ more) parts
named_white end at name_at b held more parts white = (on, back)
  where
    on : Begun (phase.Named at name_at) held end more parts → Begun (phase.Named at name_at) held end (b ∷ more) parts
    on (None, rest, later, e, is, spells) = (None, b ∷ more, later, e, refl, (white_goes end b more later white).0 (subst (λ (l : List ℕ). Spells end later l) is spells))
    on (Some c, rest, later, e, are, spells) = (Some c, rest, later, e, subst (λ (l : List ℕ). AreCoordinates l c rest) (sym (behind_skip is_white b more white)) are, spells)

    back : Begun (phase.Named at name_at) held end (b ∷ more) parts → Begun (phase.Named at name_at) held end more parts
    back (None, rest, later, e, is, spells) = (None, more, later, e, refl, (white_goes end b more later white).1 (subst (λ (l : List ℕ). Spells end later l) is spells))
    back (Some c, rest, later, e, are, spells) = (Some c, rest, later, e, subst (λ (l : List ℕ). AreCoordinates l c rest) (behind_skip is_white b more white) are, spells)

number_after : (bytes : List ℕ) (n : ℕ) (rest : List ℕ) → IsNumber bytes n rest → IsNumberAfter 0 0 bytes n rest
number_after bytes n rest number = record { some = omega (arith, number.some); few = omega (arith, number.few); value_is = number.value; fits = number.fits; after = number.after }

after_number : (bytes : List ℕ) (n : ℕ) (rest : List ℕ) → IsNumberAfter 0 0 bytes n rest → IsNumber bytes n rest
after_number bytes n rest number = record { some = omega (arith, number.some); few = omega (arith, number.few); value = number.value_is; fits = number.fits; after = number.after }

-- an @
pub named_at : (end at name_at : ℕ) (held more : List ℕ) (parts : List Part)
    → Begun (phase.Line at name_at 0 0) held end more parts ↔ Begun (phase.Named at name_at) held end (64 ∷ more) parts
named_at end at name_at held more parts = (on, back)
  where
    on : Begun (phase.Line at name_at 0 0) held end more parts → Begun (phase.Named at name_at) held end (64 ∷ more) parts
    on (c, digits, rest, later, e, line, column, spells) = (Some c, rest, later, e, (more, digits, refl, after_number more c.line (58 ∷ digits) line, column), spells)

    back : Begun (phase.Named at name_at) held end (64 ∷ more) parts → Begun (phase.Line at name_at 0 0) held end more parts
    back (None, rest, later, e, is, spells) =
        absurd (nothing_starts end 64 more later refl (λ f. omega (arith, f)) (λ f. omega (arith, f)) (λ f. omega (arith, f)) (λ f. omega (arith, f)) refl (subst (λ (l : List ℕ). Spells end later l) is spells))
    back (Some c, rest, later, e, (digits, beyond, is, line, column), spells) =
        (c, beyond, rest, later, e, number_after more c.line (58 ∷ beyond) (subst (λ (l : List ℕ). IsNumber l c.line (58 ∷ beyond)) (sym (tail_of is)) line), column, spells)

-- any other byte: there are none
pub named_ends : (end at name_at b : ℕ) (held more : List ℕ) (parts : List Part) → is_white b ≡ false → b ≢ 64
    → GivesPart (λ later. Spells end later (b ∷ more)) (part.Begin at name_at held None) parts ↔ Begun (phase.Named at name_at) held end (b ∷ more) parts
named_ends end at name_at b held more parts white other = (on, back)
  where
    on : GivesPart (λ later. Spells end later (b ∷ more)) (part.Begin at name_at held None) parts → Begun (phase.Named at name_at) held end (b ∷ more) parts
    on (later, e, spells) = (None, b ∷ more, later, e, refl, spells)

    back : Begun (phase.Named at name_at) held end (b ∷ more) parts → GivesPart (λ later. Spells end later (b ∷ more)) (part.Begin at name_at held None) parts
    back (None, rest, later, e, is, spells) = (later, e, subst (λ (l : List ℕ). Spells end later l) is spells)
    back (Some c, rest, later, e, (digits, beyond, is, line, column), spells) = absurd (other (head_of (sym (behind_stop is_white b more white) ∙ is)))

-- ---- in a number

number_more : (count value b n : ℕ) (more rest : List ℕ) → is_digit b ≡ true → IsNumberAfter (count + 1) (value * 10 + (b - 48)) more n rest → IsNumberAfter count value (b ∷ more) n rest
number_more count value b n more rest digit number = record {
  some = subst (λ (l : List ℕ). 0 < count + length l) (sym (taken_more is_digit b more digit)) (omega arith);
  few = subst (λ (l : List ℕ). count + length l ≤ 10) (sym (taken_more is_digit b more digit)) (omega (arith, number.few));
  value_is = number.value_is ∙ ap (λ (l : List ℕ). said_after value l) (sym (taken_more is_digit b more digit));
  fits = number.fits;
  after = number.after ∙ sym (behind_skip is_digit b more digit);
}

number_less : (count value b n : ℕ) (more rest : List ℕ) → is_digit b ≡ true → IsNumberAfter count value (b ∷ more) n rest → IsNumberAfter (count + 1) (value * 10 + (b - 48)) more n rest
number_less count value b n more rest digit number = record {
  some = omega arith;
  few = omega (arith, subst (λ (l : List ℕ). count + length l ≤ 10) (taken_more is_digit b more digit) number.few);
  value_is = number.value_is ∙ ap (λ (l : List ℕ). said_after value l) (taken_more is_digit b more digit);
  fits = number.fits;
  after = number.after ∙ behind_skip is_digit b more digit;
}

-- a digit that makes the number too long or too large
number_too_much : (count value b n : ℕ) (more rest : List ℕ) → is_digit b ≡ true → (IsDigitOn count value b → ⊥) → IsNumberAfter count value (b ∷ more) n rest → ⊥
number_too_much count value b n more rest digit large number =
    let next = number_less count value b n more rest digit number in
    large (omega (arith, next.few), omega (arith, next.fits, next.value_is, said_grows (value * 10 + (b - 48)) (take_while is_digit more)))

-- no digit more
number_ends : (count value b : ℕ) (more : List ℕ) → is_digit b ≡ false → 0 < count → IsBegunNumber count value → IsNumberAfter count value (b ∷ more) value (b ∷ more)
number_ends count value b more other some begun = record {
  some = omega arith;
  few = subst (λ (l : List ℕ). count + length l ≤ 10) (sym (taken_none is_digit b more other)) (omega (arith, begun.few));
  value_is = ap (λ (l : List ℕ). said_after value l) (sym (taken_none is_digit b more other));
  fits = begun.fits;
  after = sym (behind_stop is_digit b more other);
}

-- it is what was read
number_is : (count value b n : ℕ) (more rest : List ℕ) → is_digit b ≡ false → IsNumberAfter count value (b ∷ more) n rest → (n ≡ value) × (rest ≡ b ∷ more) × (0 < count)
number_is count value b n more rest other number = (
  number.value_is ∙ ap (λ (l : List ℕ). said_after value l) (taken_none is_digit b more other),
  number.after ∙ behind_stop is_digit b more other,
  omega (arith, subst (λ (l : List ℕ). 0 < count + length l) (taken_none is_digit b more other) number.some),
)

-- ---- in a line

pub line_more : (end at name_at count value b : ℕ) (held more : List ℕ) (parts : List Part) → is_digit b ≡ true
    → Begun (phase.Line at name_at (count + 1) (value * 10 + (b - 48))) held end more parts ↔ Begun (phase.Line at name_at count value) held end (b ∷ more) parts
line_more end at name_at count value b held more parts digit = (
  λ (c, digits, rest, later, e, line, column, spells). (c, digits, rest, later, e, number_more count value b c.line more (58 ∷ digits) digit line, column, spells),
  λ (c, digits, rest, later, e, line, column, spells). (c, digits, rest, later, e, number_less count value b c.line more (58 ∷ digits) digit line, column, spells),
)

pub line_too_much : (end at name_at count value b : ℕ) (held more : List ℕ) (parts : List Part) → is_digit b ≡ true → (IsDigitOn count value b → ⊥)
    → Begun (phase.Line at name_at count value) held end (b ∷ more) parts → ⊥
line_too_much end at name_at count value b held more parts digit large (c, digits, rest, later, e, line, column, spells) = number_too_much count value b c.line more (58 ∷ digits) digit large line

-- a colon
pub line_colon : (end at name_at count value : ℕ) (held more : List ℕ) (parts : List Part) → 0 < count → IsBegunNumber count value
    → Begun (phase.Column at name_at value 0 0) held end more parts ↔ Begun (phase.Line at name_at count value) held end (58 ∷ more) parts
line_colon end at name_at count value held more parts some begun = (on, back)
  where
    on : Begun (phase.Column at name_at value 0 0) held end more parts → Begun (phase.Line at name_at count value) held end (58 ∷ more) parts
    on (column, rest, later, e, number, spells) =
        (record { line = value; column = column }, more, rest, later, e, number_ends count value 58 more refl some begun, after_number more column rest number, spells)

    back : Begun (phase.Line at name_at count value) held end (58 ∷ more) parts → Begun (phase.Column at name_at value 0 0) held end more parts
    back (c, digits, rest, later, e, line, column, spells) =
        let (same, behind_is, any) = number_is count value 58 c.line more (58 ∷ digits) refl line in (
          c.column,
          rest,
          later,
          e ∙ ap (λ (n : ℕ). part.Begin at name_at held (Some (record { line = n; column = c.column })) ∷ later) same,
          number_after more c.column rest (subst (λ (l : List ℕ). IsNumber l c.column rest) (tail_of behind_is) column),
          spells,
        )

pub line_stuck : (end at name_at count value b : ℕ) (held more : List ℕ) (parts : List Part) → is_digit b ≡ false → (count ≡ 0) ⊎ (b ≢ 58)
    → Begun (phase.Line at name_at count value) held end (b ∷ more) parts → ⊥
line_stuck end at name_at count value b held more parts other (inl none) (c, digits, rest, later, e, line, column, spells) =
    let (same, behind_is, any) = number_is count value b c.line more (58 ∷ digits) other line in omega arith
line_stuck end at name_at count value b held more parts other (inr no_colon) (c, digits, rest, later, e, line, column, spells) =
    let (same, behind_is, any) = number_is count value b c.line more (58 ∷ digits) other line in no_colon (sym (head_of behind_is))

-- ---- in a column

pub column_more : (end at name_at line count value b : ℕ) (held more : List ℕ) (parts : List Part) → is_digit b ≡ true
    → Begun (phase.Column at name_at line (count + 1) (value * 10 + (b - 48))) held end more parts ↔ Begun (phase.Column at name_at line count value) held end (b ∷ more) parts
column_more end at name_at line count value b held more parts digit = (
  λ (column, rest, later, e, number, spells). (column, rest, later, e, number_more count value b column more rest digit number, spells),
  λ (column, rest, later, e, number, spells). (column, rest, later, e, number_less count value b column more rest digit number, spells),
)

pub column_too_much : (end at name_at line count value b : ℕ) (held more : List ℕ) (parts : List Part) → is_digit b ≡ true → (IsDigitOn count value b → ⊥)
    → Begun (phase.Column at name_at line count value) held end (b ∷ more) parts → ⊥
column_too_much end at name_at line count value b held more parts digit large (column, rest, later, e, number, spells) = number_too_much count value b column more rest digit large number

pub column_ends : (end at name_at line count value b : ℕ) (held more : List ℕ) (parts : List Part) → is_digit b ≡ false → 0 < count → IsBegunNumber count value
    → GivesPart (λ later. Spells end later (b ∷ more)) (part.Begin at name_at held (Some (record { line = line; column = value }))) parts
    ↔ Begun (phase.Column at name_at line count value) held end (b ∷ more) parts
column_ends end at name_at line count value b held more parts other some begun = (on, back)
  where
    on : GivesPart (λ later. Spells end later (b ∷ more)) (part.Begin at name_at held (Some (record { line = line; column = value }))) parts → Begun (phase.Column at name_at line count value) held end (b ∷ more) parts
    on (later, e, spells) = (value, b ∷ more, later, e, number_ends count value b more other some begun, spells)

    back : Begun (phase.Column at name_at line count value) held end (b ∷ more) parts → GivesPart (λ later. Spells end later (b ∷ more)) (part.Begin at name_at held (Some (record { line = line; column = value }))) parts
    back (column, rest, later, e, number, spells) =
        let (same, behind_is, any) = number_is count value b column more rest other number in
        (later, e ∙ ap (λ (n : ℕ). part.Begin at name_at held (Some (record { line = line; column = n })) ∷ later) same, subst (λ (l : List ℕ). Spells end later l) behind_is spells)

pub column_stuck : (end at name_at line count value b : ℕ) (held more : List ℕ) (parts : List Part) → is_digit b ≡ false → count ≡ 0
    → Begun (phase.Column at name_at line count value) held end (b ∷ more) parts → ⊥
column_stuck end at name_at line count value b held more parts other none (column, rest, later, e, number, spells) =
    let (same, behind_is, any) = number_is count value b column more rest other number in omega arith
