-- Each state of the scanner can be completed to a tree's text.
use Rattle.std.proofs.Common.{◌≡◌, ◌≢◌, ℕ, ◌+◌, ◌≤◌, inr, Bool, List, [], ◌∷◌, ◌++◌, length, Some, None, Option, refl, sym, subst, arith, suc, zero, pos}
use Rattle.std.specs.Prelude.{FitsSigned}
use Rattle.std.specs.Int.{w64}
use Rattle.lido_lexer.specs.Tokens.{escape}
use Rattle.tree_reader.specs.Language.{none, IsNumber, Spells}
use Rattle.tree_reader.specs.Scanning.{Begun, Follows, Closes, CanStand, IsNumberAfter, IsBegunNumber, signed}
use Rattle.tree_reader.specs.declared.part.Coordinates.{Coordinates}
use Rattle.tree_reader.specs.declared.part.Part.{Part}
use Rattle.tree_reader.specs.declared.part.Part.TheVariants as part
use Rattle.tree_reader.specs.declared.scanner.Phase.{Phase}
use Rattle.tree_reader.specs.declared.scanner.Phase.TheVariants as phase
use Rattle.tree_reader.proofs.BegunMore.{octal_ends}
use Rattle.tree_reader.proofs.MovesLemmas.{begin_follows, int_follows, text_follows}
use Rattle.tree_reader.proofs.StepsOfScanner.{no_more}

-- so many closing brackets
abbrev pub closers : ℕ → List ℕ
closers zero = []
closers (suc depth) = 41 ∷ closers depth

-- their parts, from place i on
abbrev endings : ℕ → ℕ → List Part
endings i zero = []
endings i (suc depth) = part.End i ∷ endings (suc i) depth

at_end : (m n : ℕ) (parts : List Part) (bytes : List ℕ) → m ≡ n → Spells m parts bytes → Spells n parts bytes
at_end m n parts bytes e spells = subst (λ (k : ℕ). Spells k parts bytes) e spells

closers_spell : (depth i : ℕ) → Spells (i + length (closers depth)) (endings i depth) (closers depth)
closers_spell zero i = refl
closers_spell (suc depth) i = (
  closers depth,
  (refl, refl),
  at_end (suc i + length (closers depth)) (i + length (closers (suc depth))) (endings (suc i) depth) (closers depth) (omega arith) (closers_spell depth (suc i)),
)

closers_close : (depth i : ℕ) → Closes depth (endings i depth)
closers_close zero i = refl
closers_close (suc depth) i = (none, i, endings (suc i) depth, refl, closers_close depth (suc i))

-- some bytes complete the text
abbrev pub Completes : Phase → List ℕ → Option ℕ → ℕ → Type 0
Completes p held depth i = (more : List ℕ) × (parts : List Part) × Begun p held (i + length more) more parts × Follows depth parts

gap : (held : List ℕ) (depth : Option ℕ) (i : ℕ) → Completes phase.Gap held depth i
gap held None i = (
  40 ∷ 97 ∷ 41 ∷ [],
  part.Begin i (i + 1) (97 ∷ []) None ∷ part.End (i + 2) ∷ [],
  (41 ∷ [], (97 ∷ 41 ∷ [], 41 ∷ [], refl, refl, omega arith, record { begins = refl; all = refl; after = refl }, refl), ([], (omega arith, refl), refl)),
  (i, i + 1, 97 ∷ [], None, none, i + 2, refl),
)
gap held (Some depth) i = (closers depth, endings i depth, closers_spell depth i, closers_close depth i)

-- one more node than there are is open behind a name, at least one
abbrev pub above : Option ℕ → ℕ
above None = 0
above (Some depth) = depth

begun : (depth : Option ℕ) (at name_at : ℕ) (name : List ℕ) (c : Option Coordinates) (parts : List Part) → depth ≢ Some 0 → Closes (suc (above depth)) parts → Follows depth (part.Begin at name_at name c ∷ parts)
begun None at name_at name c parts some closes = (begin_follows None at name_at name c parts some).0 closes
begun (Some depth) at name_at name c parts some closes = (begin_follows (Some depth) at name_at name c parts some).0 (subst (λ (n : ℕ). Closes n parts) (let e : suc depth ≡ depth + 1 = omega arith in e) closes)

opened : (at : ℕ) (held : List ℕ) (depth : Option ℕ) (i : ℕ) → depth ≢ Some 0 → Completes (phase.Opened at) held depth i
opened at held depth i some = (
  97 ∷ closers (suc (above depth)),
  part.Begin at i (97 ∷ []) None ∷ endings (suc i) (suc (above depth)),
  (
    i,
    97 ∷ [],
    closers (suc (above depth)),
    refl,
    record { begins = refl; all = refl; after = refl },
    (
      None,
      closers (suc (above depth)),
      endings (suc i) (suc (above depth)),
      refl,
      refl,
      at_end (suc i + length (closers (suc (above depth)))) (i + length (97 ∷ closers (suc (above depth)))) (endings (suc i) (suc (above depth))) (closers (suc (above depth))) (omega arith) (closers_spell (suc (above depth)) (suc i)),
    ),
  ),
  begun depth at i (97 ∷ []) None (endings (suc i) (suc (above depth))) some (closers_close (suc (above depth)) (suc i)),
)

named : (at name_at : ℕ) (held : List ℕ) (depth : Option ℕ) (i : ℕ) → depth ≢ Some 0 → Completes (phase.Name at name_at) held depth i
named at name_at held depth i some = (
  closers (suc (above depth)),
  part.Begin at name_at (held ++ []) None ∷ endings i (suc (above depth)),
  (None, closers (suc (above depth)), endings i (suc (above depth)), refl, refl, closers_spell (suc (above depth)) i),
  begun depth at name_at (held ++ []) None (endings i (suc (above depth))) some (closers_close (suc (above depth)) i),
)

behind_name : (at name_at : ℕ) (held : List ℕ) (depth : Option ℕ) (i : ℕ) → depth ≢ Some 0 → Completes (phase.Named at name_at) held depth i
behind_name at name_at held depth i some = (
  closers (suc (above depth)),
  part.Begin at name_at held None ∷ endings i (suc (above depth)),
  (None, closers (suc (above depth)), endings i (suc (above depth)), refl, refl, closers_spell (suc (above depth)) i),
  begun depth at name_at held None (endings i (suc (above depth))) some (closers_close (suc (above depth)) i),
)

zero_number : (d : ℕ) → IsNumber (48 ∷ closers (suc d)) 0 (closers (suc d))
zero_number d = record { some = omega arith; few = omega arith; value = refl; fits = omega arith; after = refl }

zero_after : (d : ℕ) → IsNumberAfter 0 0 (48 ∷ closers (suc d)) 0 (closers (suc d))
zero_after d = record { some = omega arith; few = omega arith; value_is = refl; fits = omega arith; after = refl }

in_line : (at name_at count value : ℕ) (held : List ℕ) (depth : Option ℕ) (i : ℕ) → depth ≢ Some 0 → IsBegunNumber count value → Completes (phase.Line at name_at count value) held depth i
in_line at name_at zero value held depth i some number = subst (λ (v : ℕ). Completes (phase.Line at name_at 0 v) held depth i) (sym (number.none refl)) (
  48 ∷ 58 ∷ 48 ∷ closers (suc (above depth)),
  part.Begin at name_at held (Some (record { line = 0; column = 0 })) ∷ endings (suc (suc (suc i))) (suc (above depth)),
  (
    record { line = 0; column = 0 },
    48 ∷ closers (suc (above depth)),
    closers (suc (above depth)),
    endings (suc (suc (suc i))) (suc (above depth)),
    refl,
    record { some = omega arith; few = omega arith; value_is = refl; fits = omega arith; after = refl },
    zero_number (above depth),
    at_end (suc (suc (suc i)) + length (closers (suc (above depth)))) (i + length (48 ∷ 58 ∷ 48 ∷ closers (suc (above depth)))) (endings (suc (suc (suc i))) (suc (above depth))) (closers (suc (above depth))) (omega arith) (closers_spell (suc (above depth)) (suc (suc (suc i)))),
  ),
  begun depth at name_at held (Some (record { line = 0; column = 0 })) (endings (suc (suc (suc i))) (suc (above depth))) some (closers_close (suc (above depth)) (suc (suc (suc i)))),
)
in_line at name_at (suc count) value held depth i some number = (
  58 ∷ 48 ∷ closers (suc (above depth)),
  part.Begin at name_at held (Some (record { line = value; column = 0 })) ∷ endings (suc (suc i)) (suc (above depth)),
  (
    record { line = value; column = 0 },
    48 ∷ closers (suc (above depth)),
    closers (suc (above depth)),
    endings (suc (suc i)) (suc (above depth)),
    refl,
    record { some = omega arith; few = omega (arith, number.few); value_is = refl; fits = number.fits; after = refl },
    zero_number (above depth),
    at_end (suc (suc i) + length (closers (suc (above depth)))) (i + length (58 ∷ 48 ∷ closers (suc (above depth)))) (endings (suc (suc i)) (suc (above depth))) (closers (suc (above depth))) (omega arith) (closers_spell (suc (above depth)) (suc (suc i))),
  ),
  begun depth at name_at held (Some (record { line = value; column = 0 })) (endings (suc (suc i)) (suc (above depth))) some (closers_close (suc (above depth)) (suc (suc i))),
)

in_column : (at name_at line count value : ℕ) (held : List ℕ) (depth : Option ℕ) (i : ℕ) → depth ≢ Some 0 → IsBegunNumber count value → Completes (phase.Column at name_at line count value) held depth i
in_column at name_at line zero value held depth i some number = subst (λ (v : ℕ). Completes (phase.Column at name_at line 0 v) held depth i) (sym (number.none refl)) (
  48 ∷ closers (suc (above depth)),
  part.Begin at name_at held (Some (record { line = line; column = 0 })) ∷ endings (suc i) (suc (above depth)),
  (
    0,
    closers (suc (above depth)),
    endings (suc i) (suc (above depth)),
    refl,
    zero_after (above depth),
    at_end (suc i + length (closers (suc (above depth)))) (i + length (48 ∷ closers (suc (above depth)))) (endings (suc i) (suc (above depth))) (closers (suc (above depth))) (omega arith) (closers_spell (suc (above depth)) (suc i)),
  ),
  begun depth at name_at held (Some (record { line = line; column = 0 })) (endings (suc i) (suc (above depth))) some (closers_close (suc (above depth)) (suc i)),
)
in_column at name_at line (suc count) value held depth i some number = (
  closers (suc (above depth)),
  part.Begin at name_at held (Some (record { line = line; column = value })) ∷ endings i (suc (above depth)),
  (
    value,
    closers (suc (above depth)),
    endings i (suc (above depth)),
    refl,
    record { some = omega arith; few = omega (arith, number.few); value_is = refl; fits = number.fits; after = refl },
    closers_spell (suc (above depth)) i,
  ),
  begun depth at name_at held (Some (record { line = line; column = value })) (endings i (suc (above depth))) some (closers_close (suc (above depth)) i),
)

minus : (at : ℕ) (held : List ℕ) (d i : ℕ) → Completes (phase.Minus at) held (Some (suc d)) i
minus at held d i = (
  48 ∷ closers (suc d),
  part.Int at (pos 0) ∷ endings (suc i) (suc d),
  (
    pos 0,
    endings (suc i) (suc d),
    refl,
    omega arith,
    refl,
    record { sfits = omega arith },
    at_end (suc i + length (closers (suc d))) (i + length (48 ∷ closers (suc d))) (endings (suc i) (suc d)) (closers (suc d)) (omega arith) (closers_spell (suc d) (suc i)),
  ),
  (int_follows d at (pos 0) (endings (suc i) (suc d))).0 (closers_close (suc d) (suc i)),
)

digits : (at : ℕ) (negative : Bool) (value : ℕ) (held : List ℕ) (d i : ℕ) → FitsSigned w64 (signed negative value) → Completes (phase.Digits at negative value) held (Some (suc d)) i
digits at negative value held d i fits = (
  closers (suc d),
  part.Int at (signed negative value) ∷ endings i (suc d),
  (signed negative value, endings i (suc d), refl, refl, fits, closers_spell (suc d) i),
  (int_follows d at (signed negative value) (endings i (suc d))).0 (closers_close (suc d) i),
)

text : (at : ℕ) (held : List ℕ) (d i : ℕ) → Completes (phase.Text at) held (Some (suc d)) i
text at held d i = (
  34 ∷ closers (suc d),
  part.Str at (held ++ []) ∷ endings (suc i) (suc d),
  (
    [],
    closers (suc d),
    endings (suc i) (suc d),
    refl,
    refl,
    at_end (suc i + length (closers (suc d))) (i + length (34 ∷ closers (suc d))) (endings (suc i) (suc d)) (closers (suc d)) (omega arith) (closers_spell (suc d) (suc i)),
  ),
  (text_follows d at (held ++ []) (endings (suc i) (suc d))).0 (closers_close (suc d) (suc i)),
)

escaping : (at : ℕ) (held : List ℕ) (d i : ℕ) → Completes (phase.Escape at) held (Some (suc d)) i
escaping at held d i = (
  110 ∷ 34 ∷ closers (suc d),
  part.Str at (held ++ 10 ∷ []) ∷ endings (suc (suc i)) (suc d),
  (
    10,
    34 ∷ closers (suc d),
    [],
    closers (suc d),
    endings (suc (suc i)) (suc d),
    refl,
    escape {letter = 110} refl refl,
    refl,
    at_end (suc (suc i) + length (closers (suc d))) (i + length (110 ∷ 34 ∷ closers (suc d))) (endings (suc (suc i)) (suc d)) (closers (suc d)) (omega arith) (closers_spell (suc d) (suc (suc i))),
  ),
  (text_follows d at (held ++ 10 ∷ []) (endings (suc (suc i)) (suc d))).0 (closers_close (suc d) (suc (suc i))),
)

octal : (at count value : ℕ) (held : List ℕ) (d i : ℕ) → value ≤ 255 → Completes (phase.Octal at count value) held (Some (suc d)) i
unfolding text
octal at count value held d i small =
    let (more, parts, is, follows) = text at (held ++ value ∷ []) d i in
    (34 ∷ closers (suc d), parts, (octal_ends (i + length (34 ∷ closers (suc d))) at 34 count value held (closers (suc d)) parts (no_more count 34 (closers (suc d)) (inr refl)) small).0 is, follows)

pub completed : (p : Phase) (held : List ℕ) (depth : Option ℕ) (i : ℕ) → CanStand p held depth → Completes p held depth i
completed phase.Gap held depth i stands = gap held depth i
completed (phase.Opened at) held depth i (empty, some) = opened at held depth i some
completed (phase.Name at name_at) held depth i some = named at name_at held depth i some
completed (phase.Named at name_at) held depth i some = behind_name at name_at held depth i some
completed (phase.Line at name_at count value) held depth i (some, number) = in_line at name_at count value held depth i some number
completed (phase.Column at name_at line count value) held depth i (some, number) = in_column at name_at line count value held depth i some number
completed (phase.Minus at) held depth i (empty, d, is) = subst (λ (x : Option ℕ). Completes (phase.Minus at) held x i) (sym is) (minus at held d i)
completed (phase.Digits at negative value) held depth i (empty, d, is, fits) = subst (λ (x : Option ℕ). Completes (phase.Digits at negative value) held x i) (sym is) (digits at negative value held d i fits)
completed (phase.Text at) held depth i (d, is) = subst (λ (x : Option ℕ). Completes (phase.Text at) held x i) (sym is) (text at held d i)
completed (phase.Escape at) held depth i (d, is) = subst (λ (x : Option ℕ). Completes (phase.Escape at) held x i) (sym is) (escaping at held d i)
completed (phase.Octal at count value) held depth i (d, is, small) = subst (λ (x : Option ℕ). Completes (phase.Octal at count value) held x i) (sym is) (octal at count value held d i small)
