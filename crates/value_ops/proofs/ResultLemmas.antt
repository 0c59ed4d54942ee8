-- What an operation without a piece gives, as a value.
use Rattle.std.specs.Prelude.{int_div, int_rem, int_le, int_lt, ◌&&◌, if◌then◌else◌, Result, Ok, Err}
use Rattle.std.specs.Ordering.{int_eq}
use Rattle.std.proofs.Common.{◌≡◌, ℕ, ◌^◌, ◌-◌, List, [], ◌∷◌, map, Bool, true, false, Option, Some, None, refl, ap, sym, ◌∙◌, ℤ, pos, negsuc, neg_ℤ, ◌+ℤ◌, ◌-ℤ◌, ◌*ℤ◌}
use Rattle.std.proofs.lemmas.Option.{none-some}
use Rattle.lido_base.specs.declared.value.Value.{Value}
use Rattle.lido_base.specs.declared.value.Value.TheVariants as value
use Rattle.lido_base.specs.declared.value.Desc.{Desc}
use Rattle.lido_base.specs.declared.value.BadKind.{BadKind}
use Rattle.lido_base.specs.declared.value.BadKind.TheVariants.{Overflow, DivideByZero}
use Rattle.lido_base.specs.declared.operation.Op.{Op}
use Rattle.lido_base.specs.declared.operation.Op.TheVariants as op
use Rattle.lido_base.specs.declared.pattern.Pattern.{Pattern}
use Rattle.lido_base.specs.Plain.{Plain, Int, Truth, Str, Text, Void, Bad, plain}
use Rattle.lido_base.specs.Operations.{operate, applied, unless_bad, int, divided}
use Rattle.string_librarian.specs.Rooms.{Deposit}
use Rattle.string_librarian.specs.Denotes.{read_by}
use Rattle.value_ops.specs.Outcome.{first_bad, IsOutcome, StandsFor, piece_of, handed_on, bad_at}
use Rattle.value_ops.specs.Results.{answered, from_plain, result_of}
use Rattle.value_ops.proofs.OutcomeLemmas.{three_are_void}

pub no-bad : (texts : List (List ℕ)) (args : List Value) (p : Plain) → first_bad args ≡ None → unless_bad (map (plain texts) args) p ≡ p
no-bad texts [] p e = refl
no-bad texts (value.Int z ∷ vs) p e = no-bad texts vs p e
no-bad texts (value.Bool b ∷ vs) p e = no-bad texts vs p e
no-bad texts (value.Str s ∷ vs) p e = no-bad texts vs p e
no-bad texts (value.Text d ∷ vs) p e = no-bad texts vs p e
no-bad texts (value.Void ∷ vs) p e = no-bad texts vs p e
no-bad texts (value.Bad o ∷ vs) p e = absurd (none-some _ (sym e))

no-string : (b : List ℕ) → Str b ≡ Void → ⊥
no-string b e = cc

no-text : (b : List ℕ) → Text b ≡ Void → ⊥
no-text b e = cc

module _ (texts : List (List ℕ)) (patterns : List Pattern) (reading : Desc → List ℕ) (node comp : ℕ) where
  abbrev fails : BadKind → Plain
  fails = bad_at node comp

  abbrev back : Plain → Plain
  back p = plain texts (from_plain p)

  abbrev read : Value → Plain
  read v = read_by texts reading v

  int-back : (z : ℤ) → int fails z ≡ back (int fails z)
  int-back z = go (int_le (negsuc (2 ^ 63 - 1)) z && int_lt z (pos (2 ^ 63)))
    where
      go : (b : Bool) → (if b then Int z else fails Overflow) ≡ back (if b then Int z else fails Overflow)
      go true = refl
      go false = refl

  divided-back : (by : ℤ → ℤ → ℤ) (x y : ℤ) → divided fails by x y ≡ back (divided fails by x y)
  divided-back by x y = go (int_eq y (pos 0))
    where
      go : (b : Bool) → (if b then fails DivideByZero else int fails (by x y)) ≡ back (if b then fails DivideByZero else int fails (by x y))
      go true = refl
      go false = int-back (by x y)

  abbrev Same : Op → List Value → Type 0
  Same o args = applied texts patterns fails o (map read args) ≡ back (applied texts patterns fails o (map (plain texts) args))

  of-none : (o : Op) → piece_of o ≡ None → handed_on o [] ≡ None → Same o []
  of-none op.Null h n = absurd (none-some _ (sym n))
  of-none op.Numb h n = refl
  of-none op.AsIs h n = refl
  of-none op.Seq h n = refl
  of-none (op.Pattern k) h n = absurd (none-some _ (sym h))
  of-none _ h n = refl

  of-one : (o : Op) (v : Value) → piece_of o ≡ None → handed_on o (v ∷ []) ≡ None → Same o (v ∷ [])
  of-one op.Neg (value.Int z) h n = int-back (neg_ℤ z)
  of-one op.Identical v h n = absurd (none-some _ (sym n))
  of-one op.Numb v h n = absurd (none-some _ (sym h))
  of-one op.AsIs v h n = absurd (none-some _ (sym h))
  of-one op.Seq v h n = absurd (none-some _ (sym h))
  of-one (op.Pattern k) v h n = absurd (none-some _ (sym h))
  of-one _ (value.Int x) h n = refl
  of-one _ (value.Bool x) h n = refl
  of-one _ (value.Str x) h n = refl
  of-one _ (value.Text x) h n = refl
  of-one _ value.Void h n = refl
  of-one _ (value.Bad x) h n = refl

  of-two : (o : Op) (v w : Value) → piece_of o ≡ None → Same o (v ∷ w ∷ [])
  of-two op.Add (value.Int x) (value.Int y) h = int-back (x +ℤ y)
  of-two op.Sub (value.Int x) (value.Int y) h = int-back (x -ℤ y)
  of-two op.Mul (value.Int x) (value.Int y) h = int-back (x *ℤ y)
  of-two op.Div (value.Int x) (value.Int y) h = divided-back int_div x y
  of-two op.Mod (value.Int x) (value.Int y) h = divided-back int_rem x y
  of-two op.Numb v w h = absurd (none-some _ (sym h))
  of-two op.AsIs v w h = absurd (none-some _ (sym h))
  of-two op.Seq v w h = absurd (none-some _ (sym h))
  of-two (op.Pattern k) v w h = absurd (none-some _ (sym h))
  of-two _ (value.Int x) (value.Int y) h = refl
  of-two _ (value.Int x) (value.Bool y) h = refl
  of-two _ (value.Int x) (value.Str y) h = refl
  of-two _ (value.Int x) (value.Text y) h = refl
  of-two _ (value.Int x) value.Void h = refl
  of-two _ (value.Int x) (value.Bad y) h = refl
  of-two _ (value.Bool x) (value.Int y) h = refl
  of-two _ (value.Bool x) (value.Bool y) h = refl
  of-two _ (value.Bool x) (value.Str y) h = refl
  of-two _ (value.Bool x) (value.Text y) h = refl
  of-two _ (value.Bool x) value.Void h = refl
  of-two _ (value.Bool x) (value.Bad y) h = refl
  of-two _ (value.Str x) (value.Int y) h = refl
  of-two _ (value.Str x) (value.Bool y) h = refl
  of-two _ (value.Str x) (value.Str y) h = refl
  of-two _ (value.Str x) (value.Text y) h = refl
  of-two _ (value.Str x) value.Void h = refl
  of-two _ (value.Str x) (value.Bad y) h = refl
  of-two _ (value.Text x) (value.Int y) h = refl
  of-two _ (value.Text x) (value.Bool y) h = refl
  of-two _ (value.Text x) (value.Str y) h = refl
  of-two _ (value.Text x) (value.Text y) h = refl
  of-two _ (value.Text x) value.Void h = refl
  of-two _ (value.Text x) (value.Bad y) h = refl
  of-two _ value.Void (value.Int y) h = refl
  of-two _ value.Void (value.Bool y) h = refl
  of-two _ value.Void (value.Str y) h = refl
  of-two _ value.Void (value.Text y) h = refl
  of-two _ value.Void value.Void h = refl
  of-two _ value.Void (value.Bad y) h = refl
  of-two _ (value.Bad x) (value.Int y) h = refl
  of-two _ (value.Bad x) (value.Bool y) h = refl
  of-two _ (value.Bad x) (value.Str y) h = refl
  of-two _ (value.Bad x) (value.Text y) h = refl
  of-two _ (value.Bad x) value.Void h = refl
  of-two _ (value.Bad x) (value.Bad y) h = refl

  -- an operation without a piece looks at no text's bytes, and gives no string and no text
  pub without-piece : (o : Op) (args : List Value) → piece_of o ≡ None → handed_on o args ≡ None → Same o args
  without-piece o [] h n = of-none o h n
  without-piece o (v ∷ []) h n = of-one o v h n
  without-piece o (v ∷ w ∷ []) h n = of-two o v w h
  without-piece o (v ∷ w ∷ x ∷ args) h n =
      three_are_void texts patterns fails o (read v) (read w) (read x) (map read args) h ∙ sym (ap back (three_are_void texts patterns fails o (plain texts v) (plain texts w) (plain texts x) (map (plain texts) args) h))

  once : (q : Plain) → from_plain q ≡ from_plain (back q)
  once (Int z) = refl
  once (Truth z) = refl
  once (Str z) = refl
  once (Text z) = refl
  once Void = refl
  once (Bad z) = refl

  plain-answer : (v : Value) (p q : Plain) → StandsFor texts patterns [] v p → p ≡ back q → from_plain p ≡ from_plain q → v ≡ from_plain q
  plain-answer (value.Int z) p q g e h = sym (ap from_plain g) ∙ h
  plain-answer (value.Bool z) p q g e h = sym (ap from_plain g) ∙ h
  plain-answer value.Void p q g e h = sym (ap from_plain g) ∙ h
  plain-answer (value.Bad z) p q g e h = sym (ap from_plain g) ∙ h
  plain-answer (value.Str s) p q g e h = absurd (no-string _ (sym g ∙ e ∙ ap (plain texts) (sym h ∙ ap from_plain g)))
  plain-answer (value.Text d) p q (bytes, den, g) e h = absurd (no-text bytes (sym g ∙ e ∙ ap (plain texts) (sym h ∙ ap from_plain g)))

  -- what the landed clause says of an operation without a piece determines its value
  pub exact-answer : (result : Result Value BadKind) (o : Op) (args : List Value) → piece_of o ≡ None → handed_on o args ≡ None
      → IsOutcome texts patterns [] result (λ f. applied texts patterns f o (map read args))
      → answered node comp result ≡ from_plain (applied texts patterns fails o (map (plain texts) args))
  exact-answer (Ok v) o args h n g =
      let same = without-piece o args h n in
      plain-answer v (applied texts patterns fails o (map read args)) (applied texts patterns fails o (map (plain texts) args)) (g fails) same (ap from_plain same ∙ sym (once (applied texts patterns fails o (map (plain texts) args))))
  exact-answer (Err kind) o args h n g =
      let same = without-piece o args h n in
      sym (ap from_plain (g fails)) ∙ ap from_plain same ∙ sym (once (applied texts patterns fails o (map (plain texts) args)))

  -- what is computed without a piece is what `result_of` says
  pub none-result : (number : ℕ) (result : Result Value BadKind) (o : Op) (args : List Value) (ds : List Deposit) → first_bad args ≡ None → piece_of o ≡ None
      → ((v : Value) → handed_on o args ≡ Some v → result ≡ Ok v)
      → (handed_on o args ≡ None → IsOutcome texts patterns [] result (λ f. applied texts patterns f o (map read args)))
      → (answered node comp result, ds) ≡ result_of texts patterns number node comp o args ds
  unfolding operate
  none-result number result o args ds bad none handed gives = by (handed_on o args) refl
    where
      by : (h : Option Value) → handed_on o args ≡ h → (answered node comp result, ds) ≡ result_of texts patterns number node comp o args ds
      by (Some v) e = rw (result_of, bad, e, handed v e) refl
      by None e =
          rw (result_of, bad, e, none) (ap (λ x. (x, ds)) (exact-answer result o args none e (gives e)
          ∙ ap from_plain (sym (no-bad texts args (applied texts patterns fails o (map (plain texts) args)) bad))))
