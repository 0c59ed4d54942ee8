-- The scanner's steps, each as a move.
use Rattle.std.proofs.Common.{◌≡◌, ◌≢◌, ℕ, ℤ, ◌+◌, ◌-◌, ◌*◌, ◌<◌, ◌≤◌, ◌↔◌, ◌⊎◌, inl, inr, Bool, true, false, List, [], ◌∷◌, ◌++◌, length, Some, None, Option, Result, Ok, Err, refl, ap, sym, ◌∙◌, subst, arith, suc, zero, true≢false, take}
use Rattle.std.specs.Prelude.{OnOk, FitsSigned, nat_lt, ◌&&◌}
use Rattle.std.specs.List.{take_while}
use Rattle.std.specs.Int.{w64}
use Rattle.std.proofs.lemmas.Bool.{and_parts, and_cases}
use Rattle.std.proofs.lemmas.Bool.Decides.{nat_tests}
use Rattle.lido_lexer.specs.Bytes.{is_octal, is_plain}
use Rattle.lido_lexer.specs.Tokens.{escaped}
use Rattle.sum_trees.specs.Bytes.{is_white, is_digit, is_letter, is_name_byte}
use Rattle.tree_reader.specs.Language.{Spells}
use Rattle.tree_reader.specs.Scanning.{Begun, Follows, Closes, Stands, CanStand, Moves, IsStuck, IsDigitOn, IsBegunNumber, signed, deeper}
use Rattle.tree_reader.specs.declared.part.Part.TheVariants as part
use Rattle.tree_reader.specs.declared.scanner.Phase.{Phase}
use Rattle.tree_reader.specs.declared.scanner.Phase.TheVariants as phase
use Rattle.tree_reader.specs.declared.scanner.Scanner.{Scanner}
use Rattle.sum_trees.proofs.FrontsOfBytes.{taken_none}
use Rattle.tree_reader.proofs.BegunLemmas.{white_goes, open_goes, minus_goes, digit_goes, quote_goes, close_goes, nothing_starts, nothing_left, no_first}
use Rattle.tree_reader.proofs.BegunMore.{opened_white, opened_letter, name_more, name_ends, minus_digit, digits_more, digits_too_many, digits_end, text_ends, text_slash, text_plain, text_stuck, escape_goes, octal_goes, octal_more, octal_too_large, octal_ends}
use Rattle.tree_reader.proofs.CoordinatesLemmas.{named_white, named_at, named_ends, line_more, line_too_much, line_colon, line_stuck, column_more, column_too_much, column_ends, column_stuck}
use Rattle.tree_reader.proofs.MovesLemmas.{quiet, giving, again, begin_follows, int_follows, text_follows, end_follows}

pub ok_then : {X E A B : Type 0} (r : Result X E) → (A → B) → OnOk r A → OnOk r B
ok_then (Ok x) f a = f a
ok_then (Err e) f a = a

-- what the state says where the phase is known
pub stands_at : (s : Scanner) (p : Phase) → s.phase ≡ p → Stands s → CanStand p s.held s.depth
stands_at s p was stands = subst (λ (q : Phase). CanStand q s.held s.depth) was stands

inside : (d : Option ℕ) (depth : ℕ) → d ≡ Some depth → 0 < depth → (k : ℕ) × (d ≡ Some (suc k))
inside d depth is some = (depth - 1, is ∙ (let e : depth ≡ suc (depth - 1) = omega arith in ap (λ (n : ℕ). Some n) e))

not_zero : (d : Option ℕ) → (k : ℕ) × (d ≡ Some (suc k)) → d ≢ Some 0
not_zero d (k, is) zero_is = absurd (let e : Some (suc k) ≡ Some 0 = sym is ∙ zero_is in let n : suc k ≡ 0 = cc in omega (arith, n))

-- ---- between two parts

pub gap_white : (i b : ℕ) (s : Scanner) → s.phase ≡ phase.Gap → Stands s → is_white b ≡ true → Moves i (b ∷ []) s [] s
gap_white i b s was stands white =
    quiet i b phase.Gap s s was refl refl stands (λ end more parts place. subst (λ (q : Phase). Begun q s.held end more parts ↔ Spells end parts (b ∷ more)) (sym was) (white_goes end b more parts white))

pub gap_open : (i b : ℕ) (old new : Scanner) → old.phase ≡ phase.Gap → Stands old → b ≡ 40 → old.depth ≢ Some 0 → new ≡ record old { phase = phase.Opened i } → Moves i (b ∷ []) old [] new
gap_open i b old new was stands is some e = subst (λ (s : Scanner). Moves i (b ∷ []) old [] s) (sym e) (subst (λ (x : ℕ). Moves i (x ∷ []) old [] (record old { phase = phase.Opened i })) (sym is)
    (quiet i 40 phase.Gap old (record old { phase = phase.Opened i }) was refl refl (stands_at old phase.Gap was stands, some) (λ end more parts place. open_goes end i old.held more parts place)))

pub child_end : (i b depth : ℕ) (old new : Scanner) → old.phase ≡ phase.Gap → Stands old → b ≡ 41 → old.depth ≡ Some depth → 0 < depth
    → new ≡ record old { parts = old.parts ++ part.End i ∷ []; phase = phase.Gap; depth = Some (depth - 1) } → Moves i (b ∷ []) old [] new
unfolding inside
child_end i b depth old new was stands is deep some e = subst (λ (s : Scanner). Moves i (b ∷ []) old [] s) (sym e)
    (subst (λ (x : ℕ). Moves i (x ∷ []) old [] (record old { parts = old.parts ++ part.End i ∷ []; phase = phase.Gap; depth = Some (depth - 1) })) (sym is)
    (giving i 41 [] phase.Gap (part.End i) old (record old { parts = old.parts ++ part.End i ∷ []; phase = phase.Gap; depth = Some (depth - 1) }) was refl (stands_at old phase.Gap was stands)
    (λ parts. subst (λ (d : Option ℕ). Closes (depth - 1) parts ↔ Follows d (part.End i ∷ parts)) (sym (inside old.depth depth deep some).1) (end_follows (depth - 1) i parts))
    (λ end more parts place. close_goes end i more parts place)))

pub child_quote : (i b depth : ℕ) (old new : Scanner) → old.phase ≡ phase.Gap → Stands old → b ≡ 34 → old.depth ≡ Some depth → 0 < depth
    → new ≡ record old { phase = phase.Text i } → Moves i (b ∷ []) old [] new
child_quote i b depth old new was stands is deep some e = subst (λ (s : Scanner). Moves i (b ∷ []) old [] s) (sym e) (subst (λ (x : ℕ). Moves i (x ∷ []) old [] (record old { phase = phase.Text i })) (sym is)
    (quiet i 34 phase.Gap old (record old { phase = phase.Text i }) was refl refl (inside old.depth depth deep some)
    (λ end more parts place. subst (λ (l : List ℕ). Begun (phase.Text i) l end more parts ↔ Spells end parts (34 ∷ more)) (sym (stands_at old phase.Gap was stands)) (quote_goes end i more parts place))))

pub child_minus : (i b depth : ℕ) (old new : Scanner) → old.phase ≡ phase.Gap → Stands old → b ≡ 45 → old.depth ≡ Some depth → 0 < depth
    → new ≡ record old { phase = phase.Minus i } → Moves i (b ∷ []) old [] new
child_minus i b depth old new was stands is deep some e = subst (λ (s : Scanner). Moves i (b ∷ []) old [] s) (sym e) (subst (λ (x : ℕ). Moves i (x ∷ []) old [] (record old { phase = phase.Minus i })) (sym is)
    (quiet i 45 phase.Gap old (record old { phase = phase.Minus i }) was refl refl (stands_at old phase.Gap was stands, (inside old.depth depth deep some).0, (inside old.depth depth deep some).1)
    (λ end more parts place. minus_goes end i old.held more parts place)))

digit_range : (b : ℕ) → is_digit b ≡ true → b ≤ 57
digit_range b digit = grind (arith, nat_tests)

range_digit : (b : ℕ) → 48 ≤ b → b ≤ 57 → is_digit b ≡ true
range_digit b low high = grind (arith, nat_tests)

pub child_digit : (i b depth value : ℕ) (old new : Scanner) → old.phase ≡ phase.Gap → Stands old → is_digit b ≡ true → old.depth ≡ Some depth → 0 < depth → value ≡ b - 48
    → new ≡ record old { phase = phase.Digits i false value } → Moves i (b ∷ []) old [] new
child_digit i b depth value old new was stands digit deep some is e = subst (λ (s : Scanner). Moves i (b ∷ []) old [] s) (sym e)
    (subst (λ (v : ℕ). Moves i (b ∷ []) old [] (record old { phase = phase.Digits i false v })) (sym is)
    (quiet i b phase.Gap old (record old { phase = phase.Digits i false (b - 48) }) was refl refl
    (stands_at old phase.Gap was stands, (inside old.depth depth deep some).0, (inside old.depth depth deep some).1, record { sfits = omega (arith, digit_range b digit) })
    (λ end more parts place. digit_goes end i b old.held more parts digit place)))

pub child_open : (i b depth : ℕ) (old new : Scanner) → old.phase ≡ phase.Gap → Stands old → b ≡ 40 → old.depth ≡ Some depth → 0 < depth → new ≡ record old { phase = phase.Opened i } → Moves i (b ∷ []) old [] new
child_open i b depth old new was stands is deep some e = gap_open i b old new was stands is (not_zero old.depth (inside old.depth depth deep some)) e

pub child_stuck : (i b : ℕ) (s : Scanner) → s.phase ≡ phase.Gap → is_white b ≡ false → b ≢ 40 → b ≢ 45 → b ≢ 34 → b ≢ 41 → is_digit b ≡ false → IsStuck i b s
child_stuck i b s was white bracket sign quote close digit more parts left =
    nothing_starts (i + length (b ∷ more)) b more parts white bracket sign quote close digit (subst (λ (q : Phase). Begun q s.held (i + length (b ∷ more)) (b ∷ more) parts) was left.0)

pub first_open : (i b : ℕ) (old new : Scanner) → old.phase ≡ phase.Gap → Stands old → b ≡ 40 → old.depth ≡ None → new ≡ record old { phase = phase.Opened i } → Moves i (b ∷ []) old [] new
first_open i b old new was stands is none e = gap_open i b old new was stands is (λ some. absurd (let wrong = sym none ∙ some in cc)) e

pub first_stuck : (i b : ℕ) (s : Scanner) → s.phase ≡ phase.Gap → s.depth ≡ None → is_white b ≡ false → b ≢ 40 → IsStuck i b s
first_stuck i b s was none white bracket more parts left =
    no_first (i + length (b ∷ more)) b more parts white bracket (subst (λ (d : Option ℕ). Follows d parts) none left.1) (subst (λ (q : Phase). Begun q s.held (i + length (b ∷ more)) (b ∷ more) parts) was left.0)

pub end_stuck : (i b : ℕ) (s : Scanner) → s.phase ≡ phase.Gap → s.depth ≡ Some 0 → is_white b ≡ false → IsStuck i b s
end_stuck i b s was none white more parts left =
    nothing_left (i + length (b ∷ more)) b more parts white (subst (λ (d : Option ℕ). Follows d parts) none left.1) (subst (λ (q : Phase). Begun q s.held (i + length (b ∷ more)) (b ∷ more) parts) was left.0)

-- ---- behind a bracket, and in a name

pub opened_gap : (i b at : ℕ) (s : Scanner) → s.phase ≡ phase.Opened at → Stands s → is_white b ≡ true → Moves i (b ∷ []) s [] s
opened_gap i b at s was stands white =
    quiet i b (phase.Opened at) s s was refl refl stands
    (λ end more parts place. subst (λ (q : Phase). Begun q s.held end more parts ↔ Begun (phase.Opened at) s.held end (b ∷ more) parts) (sym was) (opened_white end at b s.held s.held more parts white))

pub opened_name : (i b at : ℕ) (old new : Scanner) → old.phase ≡ phase.Opened at → Stands old → is_letter b ≡ true
    → new ≡ record old { held = old.held ++ b ∷ []; phase = phase.Name at i } → Moves i (b ∷ []) old [] new
opened_name i b at old new was stands letter e =
    let (empty, some) = stands_at old (phase.Opened at) was stands in
    let is : new ≡ record old { held = b ∷ []; phase = phase.Name at i } = e ∙ ap (λ (l : List ℕ). record old { held = l ++ b ∷ []; phase = phase.Name at i }) empty in
    subst (λ (s : Scanner). Moves i (b ∷ []) old [] s) (sym is)
    (quiet i b (phase.Opened at) old (record old { held = b ∷ []; phase = phase.Name at i }) was refl refl
    some
    (λ end more parts place. opened_letter end at i b old.held more parts letter place))

pub name_on : (i b at name_at : ℕ) (old new : Scanner) → old.phase ≡ phase.Name at name_at → Stands old → is_name_byte b ≡ true
    → new ≡ record old { held = old.held ++ b ∷ []; phase = phase.Name at name_at } → Moves i (b ∷ []) old [] new
name_on i b at name_at old new was stands passes e =
    subst (λ (s : Scanner). Moves i (b ∷ []) old [] s) (sym e)
    (quiet i b (phase.Name at name_at) old (record old { held = old.held ++ b ∷ []; phase = phase.Name at name_at }) was refl refl
    (stands_at old (phase.Name at name_at) was stands)
    (λ end more parts place. name_more end at name_at b old.held more parts passes))

pub name_whole : (i b at name_at : ℕ) (old new : Scanner) → old.phase ≡ phase.Name at name_at → Stands old → is_name_byte b ≡ false
    → new ≡ record old { phase = phase.Named at name_at } → Moves i (b ∷ []) old (b ∷ []) new
name_whole i b at name_at old new was stands fails e =
    subst (λ (s : Scanner). Moves i (b ∷ []) old (b ∷ []) s) (sym e)
    (again i b (phase.Name at name_at) old (record old { phase = phase.Named at name_at }) was refl refl (stands_at old (phase.Name at name_at) was stands)
    (λ end more parts. name_ends end at name_at b old.held more parts fails))

-- ---- behind a name

pub named_gap : (i b at name_at : ℕ) (s : Scanner) → s.phase ≡ phase.Named at name_at → Stands s → is_white b ≡ true → Moves i (b ∷ []) s [] s
named_gap i b at name_at s was stands white =
    quiet i b (phase.Named at name_at) s s was refl refl stands
    (λ end more parts place. subst (λ (q : Phase). Begun q s.held end more parts ↔ Begun (phase.Named at name_at) s.held end (b ∷ more) parts) (sym was) (named_white end at name_at b s.held more parts white))

pub named_line : (i b at name_at : ℕ) (old new : Scanner) → old.phase ≡ phase.Named at name_at → Stands old → b ≡ 64
    → new ≡ record old { phase = phase.Line at name_at 0 0 } → Moves i (b ∷ []) old [] new
named_line i b at name_at old new was stands is e = subst (λ (s : Scanner). Moves i (b ∷ []) old [] s) (sym e)
    (subst (λ (x : ℕ). Moves i (x ∷ []) old [] (record old { phase = phase.Line at name_at 0 0 })) (sym is)
    (quiet i 64 (phase.Named at name_at) old (record old { phase = phase.Line at name_at 0 0 }) was refl refl
    (stands_at old (phase.Named at name_at) was stands, record { few = omega arith; fits = omega arith; none = λ none. refl })
    (λ end more parts place. named_at end at name_at old.held more parts)))

pub named_whole : (i b at name_at : ℕ) (old new : Scanner) → old.phase ≡ phase.Named at name_at → Stands old → is_white b ≡ false → b ≢ 64
    → new ≡ record { parts = old.parts ++ part.Begin at name_at old.held None ∷ []; phase = phase.Gap; held = []; depth = Some (deeper old.depth) } → Moves i (b ∷ []) old (b ∷ []) new
named_whole i b at name_at old new was stands white other e =
    let some = stands_at old (phase.Named at name_at) was stands in
    subst (λ (s : Scanner). Moves i (b ∷ []) old (b ∷ []) s) (sym e)
    (giving i b (b ∷ []) (phase.Named at name_at) (part.Begin at name_at old.held None) old
    (record { parts = old.parts ++ part.Begin at name_at old.held None ∷ []; phase = phase.Gap; held = []; depth = Some (deeper old.depth) }) was refl refl
    (λ parts. begin_follows old.depth at name_at old.held None parts some)
    (λ end more parts place. named_ends end at name_at b old.held more parts white other))

-- ---- in coordinates

more_begun : (count value b : ℕ) → IsDigitOn count value b → IsBegunNumber (count + 1) (value * 10 + (b - 48))
more_begun count value b (few, fits) = record { few = omega arith; fits = fits; none = λ none. absurd (omega (arith, none)) }

pub line_on : (i b at name_at count value next : ℕ) (old new : Scanner) → old.phase ≡ phase.Line at name_at count value → Stands old → is_digit b ≡ true
    → next ≡ value * 10 + (b - 48) → IsDigitOn count value b → new ≡ record old { phase = phase.Line at name_at (count + 1) next } → Moves i (b ∷ []) old [] new
line_on i b at name_at count value next old new was stands digit is more e =
    let (some, begun) = stands_at old (phase.Line at name_at count value) was stands in
    subst (λ (s : Scanner). Moves i (b ∷ []) old [] s) (sym e)
    (subst (λ (v : ℕ). Moves i (b ∷ []) old [] (record old { phase = phase.Line at name_at (count + 1) v })) (sym is)
    (quiet i b (phase.Line at name_at count value) old (record old { phase = phase.Line at name_at (count + 1) (value * 10 + (b - 48)) }) was refl refl (some, more_begun count value b more)
    (λ end more parts place. line_more end at name_at count value b old.held more parts digit)))

pub line_no_more : (i b at name_at count value : ℕ) (s : Scanner) → s.phase ≡ phase.Line at name_at count value → is_digit b ≡ true → (IsDigitOn count value b → ⊥) → IsStuck i b s
line_no_more i b at name_at count value s was digit large more parts left =
    line_too_much (i + length (b ∷ more)) at name_at count value b s.held more parts digit large (subst (λ (q : Phase). Begun q s.held (i + length (b ∷ more)) (b ∷ more) parts) was left.0)

pub line_whole : (i b at name_at count value : ℕ) (old new : Scanner) → old.phase ≡ phase.Line at name_at count value → Stands old → b ≡ 58 → 0 < count
    → new ≡ record old { phase = phase.Column at name_at value 0 0 } → Moves i (b ∷ []) old [] new
line_whole i b at name_at count value old new was stands is any e =
    let (some, begun) = stands_at old (phase.Line at name_at count value) was stands in
    subst (λ (s : Scanner). Moves i (b ∷ []) old [] s) (sym e)
    (subst (λ (x : ℕ). Moves i (x ∷ []) old [] (record old { phase = phase.Column at name_at value 0 0 })) (sym is)
    (quiet i 58 (phase.Line at name_at count value) old (record old { phase = phase.Column at name_at value 0 0 }) was refl refl (some, record { few = omega arith; fits = omega arith; none = λ none. refl })
    (λ end more parts place. line_colon end at name_at count value old.held more parts any begun)))

pub line_nowhere : (i b at name_at count value : ℕ) (s : Scanner) → s.phase ≡ phase.Line at name_at count value → is_digit b ≡ false → (count ≡ 0) ⊎ (b ≢ 58) → IsStuck i b s
line_nowhere i b at name_at count value s was other wrong more parts left =
    line_stuck (i + length (b ∷ more)) at name_at count value b s.held more parts other wrong (subst (λ (q : Phase). Begun q s.held (i + length (b ∷ more)) (b ∷ more) parts) was left.0)

pub column_on : (i b at name_at line count value next : ℕ) (old new : Scanner) → old.phase ≡ phase.Column at name_at line count value → Stands old → is_digit b ≡ true
    → next ≡ value * 10 + (b - 48) → IsDigitOn count value b → new ≡ record old { phase = phase.Column at name_at line (count + 1) next } → Moves i (b ∷ []) old [] new
column_on i b at name_at line count value next old new was stands digit is more e =
    let (some, begun) = stands_at old (phase.Column at name_at line count value) was stands in
    subst (λ (s : Scanner). Moves i (b ∷ []) old [] s) (sym e)
    (subst (λ (v : ℕ). Moves i (b ∷ []) old [] (record old { phase = phase.Column at name_at line (count + 1) v })) (sym is)
    (quiet i b (phase.Column at name_at line count value) old (record old { phase = phase.Column at name_at line (count + 1) (value * 10 + (b - 48)) }) was refl refl (some, more_begun count value b more)
    (λ end more parts place. column_more end at name_at line count value b old.held more parts digit)))

pub column_no_more : (i b at name_at line count value : ℕ) (s : Scanner) → s.phase ≡ phase.Column at name_at line count value → is_digit b ≡ true → (IsDigitOn count value b → ⊥) → IsStuck i b s
column_no_more i b at name_at line count value s was digit large more parts left =
    column_too_much (i + length (b ∷ more)) at name_at line count value b s.held more parts digit large (subst (λ (q : Phase). Begun q s.held (i + length (b ∷ more)) (b ∷ more) parts) was left.0)

pub column_whole : (i b at name_at line count value : ℕ) (old new : Scanner) → old.phase ≡ phase.Column at name_at line count value → Stands old → is_digit b ≡ false → 0 < count
    → new ≡ record { parts = old.parts ++ part.Begin at name_at old.held (Some (record { line = line; column = value })) ∷ []; phase = phase.Gap; held = []; depth = Some (deeper old.depth) } → Moves i (b ∷ []) old (b ∷ []) new
column_whole i b at name_at line count value old new was stands other any e =
    let (some, begun) = stands_at old (phase.Column at name_at line count value) was stands in
    subst (λ (s : Scanner). Moves i (b ∷ []) old (b ∷ []) s) (sym e)
    (giving i b (b ∷ []) (phase.Column at name_at line count value) (part.Begin at name_at old.held (Some (record { line = line; column = value }))) old
    (record { parts = old.parts ++ part.Begin at name_at old.held (Some (record { line = line; column = value })) ∷ []; phase = phase.Gap; held = []; depth = Some (deeper old.depth) }) was refl refl
    (λ parts. begin_follows old.depth at name_at old.held (Some (record { line = line; column = value })) parts some)
    (λ end more parts place. column_ends end at name_at line count value b old.held more parts other any begun))

pub column_nowhere : (i b at name_at line count value : ℕ) (s : Scanner) → s.phase ≡ phase.Column at name_at line count value → is_digit b ≡ false → count ≡ 0 → IsStuck i b s
column_nowhere i b at name_at line count value s was other none more parts left =
    column_stuck (i + length (b ∷ more)) at name_at line count value b s.held more parts other none (subst (λ (q : Phase). Begun q s.held (i + length (b ∷ more)) (b ∷ more) parts) was left.0)

-- ---- in a number

pub minus_on : (i b at value : ℕ) (old new : Scanner) → old.phase ≡ phase.Minus at → Stands old → is_digit b ≡ true → value ≡ b - 48
    → new ≡ record old { phase = phase.Digits at true value } → Moves i (b ∷ []) old [] new
minus_on i b at value old new was stands digit is e =
    let (empty, d, deep) = stands_at old (phase.Minus at) was stands in
    subst (λ (s : Scanner). Moves i (b ∷ []) old [] s) (sym e)
    (subst (λ (v : ℕ). Moves i (b ∷ []) old [] (record old { phase = phase.Digits at true v })) (sym is)
    (quiet i b (phase.Minus at) old (record old { phase = phase.Digits at true (b - 48) }) was refl refl (empty, d, deep, small_minus (b - 48) (omega (arith, digit_range b digit)))
    (λ end more parts place. minus_digit end at b old.held old.held more parts digit)))
  where
    small_minus : (n : ℕ) → n ≤ 9 → FitsSigned w64 (signed true n)
    small_minus zero small = record { sfits = omega arith }
    small_minus (suc n) small = record { sfits = omega arith }

pub digits_on : (i b at value : ℕ) (negative : Bool) (next : ℕ) (old new : Scanner) → old.phase ≡ phase.Digits at negative value → Stands old → is_digit b ≡ true
    → next ≡ value * 10 + (b - 48) → FitsSigned w64 (signed negative (value * 10 + (b - 48)))
    → new ≡ record old { phase = phase.Digits at negative next } → Moves i (b ∷ []) old [] new
digits_on i b at value negative next old new was stands digit is fits e =
    let (empty, d, deep, small) = stands_at old (phase.Digits at negative value) was stands in
    subst (λ (s : Scanner). Moves i (b ∷ []) old [] s) (sym e)
    (subst (λ (v : ℕ). Moves i (b ∷ []) old [] (record old { phase = phase.Digits at negative v })) (sym is)
    (quiet i b (phase.Digits at negative value) old (record old { phase = phase.Digits at negative (value * 10 + (b - 48)) }) was refl refl (empty, d, deep, fits)
    (λ end more parts place. digits_more end at b value negative old.held old.held more parts digit)))

pub digits_stuck : (i b at value : ℕ) (negative : Bool) (s : Scanner) → s.phase ≡ phase.Digits at negative value → is_digit b ≡ true
    → (FitsSigned w64 (signed negative (value * 10 + (b - 48))) → ⊥) → IsStuck i b s
digits_stuck i b at value negative s was digit large more parts left =
    digits_too_many (i + length (b ∷ more)) at b value negative s.held more parts digit large (subst (λ (q : Phase). Begun q s.held (i + length (b ∷ more)) (b ∷ more) parts) was left.0)

pub digits_whole : (i b at value : ℕ) (negative : Bool) (z : ℤ) (old new : Scanner) → old.phase ≡ phase.Digits at negative value → Stands old → is_digit b ≡ false → z ≡ signed negative value
    → new ≡ record old { parts = old.parts ++ part.Int at z ∷ []; phase = phase.Gap } → Moves i (b ∷ []) old (b ∷ []) new
digits_whole i b at value negative z old new was stands other is e =
    let (empty, d, deep, small) = stands_at old (phase.Digits at negative value) was stands in
    subst (λ (s : Scanner). Moves i (b ∷ []) old (b ∷ []) s) (sym e)
    (subst (λ (x : ℤ). Moves i (b ∷ []) old (b ∷ []) (record old { parts = old.parts ++ part.Int at x ∷ []; phase = phase.Gap })) (sym is)
    (giving i b (b ∷ []) (phase.Digits at negative value) (part.Int at (signed negative value)) old
    (record old { parts = old.parts ++ part.Int at (signed negative value) ∷ []; phase = phase.Gap }) was refl empty
    (λ parts. subst (λ (x : Option ℕ). Follows x parts ↔ Follows x (part.Int at (signed negative value) ∷ parts)) (sym deep) (int_follows d at (signed negative value) parts))
    (λ end more parts place. digits_end end at b value negative old.held more parts other small)))

-- ---- in a string

pub text_whole : (i b at : ℕ) (old new : Scanner) → old.phase ≡ phase.Text at → Stands old → b ≡ 34
    → new ≡ record old { parts = old.parts ++ part.Str at old.held ∷ []; phase = phase.Gap; held = [] } → Moves i (b ∷ []) old [] new
text_whole i b at old new was stands is e =
    let (d, deep) = stands_at old (phase.Text at) was stands in
    subst (λ (s : Scanner). Moves i (b ∷ []) old [] s) (sym e)
    (subst (λ (x : ℕ). Moves i (x ∷ []) old [] (record old { parts = old.parts ++ part.Str at old.held ∷ []; phase = phase.Gap; held = [] })) (sym is)
    (giving i 34 [] (phase.Text at) (part.Str at old.held) old
    (record old { parts = old.parts ++ part.Str at old.held ∷ []; phase = phase.Gap; held = [] }) was refl refl
    (λ parts. subst (λ (x : Option ℕ). Follows x parts ↔ Follows x (part.Str at old.held ∷ parts)) (sym deep) (text_follows d at old.held parts))
    (λ end more parts place. text_ends end at old.held more parts)))

pub text_escape : (i b at : ℕ) (old new : Scanner) → old.phase ≡ phase.Text at → Stands old → b ≡ 92 → new ≡ record old { phase = phase.Escape at } → Moves i (b ∷ []) old [] new
text_escape i b at old new was stands is e =
    subst (λ (s : Scanner). Moves i (b ∷ []) old [] s) (sym e) (subst (λ (x : ℕ). Moves i (x ∷ []) old [] (record old { phase = phase.Escape at })) (sym is)
    (quiet i 92 (phase.Text at) old (record old { phase = phase.Escape at }) was refl refl (stands_at old (phase.Text at) was stands) (λ end more parts place. text_slash end at old.held more parts)))

pub text_on : (i b at : ℕ) (old new : Scanner) → old.phase ≡ phase.Text at → Stands old → is_plain b ≡ true
    → new ≡ record old { held = old.held ++ b ∷ []; phase = phase.Text at } → Moves i (b ∷ []) old [] new
text_on i b at old new was stands passes e =
    subst (λ (s : Scanner). Moves i (b ∷ []) old [] s) (sym e)
    (quiet i b (phase.Text at) old (record old { held = old.held ++ b ∷ []; phase = phase.Text at }) was refl refl (stands_at old (phase.Text at) was stands)
    (λ end more parts place. text_plain end at b old.held more parts passes))

pub text_nowhere : (i b at : ℕ) (s : Scanner) → s.phase ≡ phase.Text at → b ≢ 34 → b ≢ 92 → is_plain b ≡ false → IsStuck i b s
text_nowhere i b at s was quote slash other more parts left =
    text_stuck (i + length (b ∷ more)) at b s.held more parts quote slash other (subst (λ (q : Phase). Begun q s.held (i + length (b ∷ more)) (b ∷ more) parts) was left.0)

pub escape_on : (i b at byte : ℕ) (old new : Scanner) → old.phase ≡ phase.Escape at → Stands old → escaped b ≡ Some byte
    → new ≡ record old { held = old.held ++ byte ∷ []; phase = phase.Text at } → Moves i (b ∷ []) old [] new
escape_on i b at byte old new was stands meant e =
    subst (λ (s : Scanner). Moves i (b ∷ []) old [] s) (sym e)
    (quiet i b (phase.Escape at) old (record old { held = old.held ++ byte ∷ []; phase = phase.Text at }) was refl refl (stands_at old (phase.Escape at) was stands)
    (λ end more parts place. escape_goes end at b byte old.held more parts meant))

octal_range : (b : ℕ) → is_octal b ≡ true → b ≤ 55
octal_range b digit = grind (arith, nat_tests)

pub escape_octal : (i b at value : ℕ) (old new : Scanner) → old.phase ≡ phase.Escape at → Stands old → is_octal b ≡ true → value ≡ b - 48
    → new ≡ record old { phase = phase.Octal at 2 value } → Moves i (b ∷ []) old [] new
escape_octal i b at value old new was stands digit is e =
    let (d, deep) = stands_at old (phase.Escape at) was stands in
    subst (λ (s : Scanner). Moves i (b ∷ []) old [] s) (sym e)
    (subst (λ (v : ℕ). Moves i (b ∷ []) old [] (record old { phase = phase.Octal at 2 v })) (sym is)
    (quiet i b (phase.Escape at) old (record old { phase = phase.Octal at 2 (b - 48) }) was refl refl (d, deep, omega (arith, octal_range b digit))
    (λ end more parts place. octal_goes end at b old.held more parts digit)))

pub octal_on : (i b at value next : ℕ) (count : ℕ) (old new : Scanner) → old.phase ≡ phase.Octal at (suc count) value → Stands old → is_octal b ≡ true
    → next ≡ value * 8 + (b - 48) → value * 8 + (b - 48) ≤ 255
    → new ≡ record old { phase = phase.Octal at count next } → Moves i (b ∷ []) old [] new
octal_on i b at value next count old new was stands digit is small e =
    let (d, deep, fits) = stands_at old (phase.Octal at (suc count) value) was stands in
    subst (λ (s : Scanner). Moves i (b ∷ []) old [] s) (sym e)
    (subst (λ (v : ℕ). Moves i (b ∷ []) old [] (record old { phase = phase.Octal at count v })) (sym is)
    (quiet i b (phase.Octal at (suc count) value) old (record old { phase = phase.Octal at count (value * 8 + (b - 48)) }) was refl refl (d, deep, small)
    (λ end more parts place. octal_more end at b count value old.held more parts digit)))

pub octal_stuck : (i b at value count : ℕ) (s : Scanner) → s.phase ≡ phase.Octal at (suc count) value → is_octal b ≡ true → (value * 8 + (b - 48) ≤ 255 → ⊥) → IsStuck i b s
octal_stuck i b at value count s was digit large more parts left =
    octal_too_large (i + length (b ∷ more)) at b count value s.held more parts digit large (subst (λ (q : Phase). Begun q s.held (i + length (b ∷ more)) (b ∷ more) parts) was left.0)

pub no_more : (count b : ℕ) (more : List ℕ) → (count ≡ 0) ⊎ (is_octal b ≡ false) → take_while is_octal (take count (b ∷ more)) ≡ []
no_more zero b more all = refl
no_more (suc count) b more (inl none) = absurd (omega (arith, none))
no_more (suc count) b more (inr other) = taken_none is_octal b (take count more) other

pub octal_whole : (i b at value count : ℕ) (old new : Scanner) → old.phase ≡ phase.Octal at count value → Stands old → (count ≡ 0) ⊎ (is_octal b ≡ false)
    → new ≡ record old { held = old.held ++ value ∷ []; phase = phase.Text at } → Moves i (b ∷ []) old (b ∷ []) new
octal_whole i b at value count old new was stands all e =
    let (d, deep, fits) = stands_at old (phase.Octal at count value) was stands in
    subst (λ (s : Scanner). Moves i (b ∷ []) old (b ∷ []) s) (sym e)
    (again i b (phase.Octal at count value) old (record old { held = old.held ++ value ∷ []; phase = phase.Text at }) was refl refl (d, deep)
    (λ end more parts. octal_ends end at b count value old.held more parts (no_more count b more all) fits))

pub octal_at : (i b at value next : ℕ) (count : ℕ) (old new : Scanner) → old.phase ≡ phase.Octal at count value → Stands old → (nat_lt 0 count && is_octal b) ≡ true
    → next ≡ value * 8 + (b - 48) → value * 8 + (b - 48) ≤ 255
    → new ≡ record old { phase = phase.Octal at (count - 1) next } → Moves i (b ∷ []) old [] new
octal_at i b at value next zero old new was stands test is small e = absurd (true≢false (sym test))
octal_at i b at value next (suc count) old new was stands test is small e =
    let less : suc count - 1 ≡ count = omega arith in
    octal_on i b at value next count old new was stands (and_parts (nat_lt 0 (suc count)) (is_octal b) test).1 is small (e ∙ ap (λ (n : ℕ). record old { phase = phase.Octal at n next }) less)

pub octal_stuck_at : (i b at value count : ℕ) (s : Scanner) → s.phase ≡ phase.Octal at count value → (nat_lt 0 count && is_octal b) ≡ true → (value * 8 + (b - 48) ≤ 255 → ⊥) → IsStuck i b s
octal_stuck_at i b at value zero s was test large = absurd (true≢false (sym test))
octal_stuck_at i b at value (suc count) s was test large = octal_stuck i b at value count s was (and_parts (nat_lt 0 (suc count)) (is_octal b) test).1 large

pub octal_all : (count b : ℕ) → (nat_lt 0 count && is_octal b) ≡ false → (count ≡ 0) ⊎ (is_octal b ≡ false)
octal_all zero b test = inl refl
octal_all (suc count) b test = inr (other (and_cases (nat_lt 0 (suc count)) (is_octal b) test))
  where
    other : (nat_lt 0 (suc count) ≡ false) ⊎ (is_octal b ≡ false) → is_octal b ≡ false
    other (inl none) = absurd (let some : nat_lt 0 (suc count) ≡ true = grind (arith, nat_tests) in true≢false (sym some ∙ none))
    other (inr none) = none
