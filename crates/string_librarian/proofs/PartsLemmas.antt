-- What a piece makes is what its parts print.
use Rattle.std.proofs.Common.{◌≡◌, ℕ, List, [], ◌∷◌, ◌++◌, Option, Some, None, slice_get, refl, zero, suc, Bool, true, false, not, nat_eq, length, map, ap, subst, sym, ◌∙◌, append-nil, unwrap_or, arith, eqb-true}
use Rattle.std.proofs.lemmas.Option.{same_Some}
use Rattle.std.specs.Fmt.{signed_decimal}
use Rattle.lido_base.specs.declared.pattern.Pattern.{Pattern}
use Rattle.lido_base.specs.declared.pattern.Piece.{Piece}
use Rattle.lido_base.specs.declared.pattern.Piece.TheVariants as piece
use Rattle.lido_base.specs.Plain.{Plain, Int, Str, Text, Void}
use Rattle.lido_base.specs.Operations.{pattern_bytes, argument, is_empty_text, is_filled}
use Rattle.std.specs.Prelude.{Contains}
use Rattle.std.specs.List.{list_all}
use Rattle.lido_base.specs.declared.value.Value.{Value}
use Rattle.lido_base.specs.declared.value.Value.TheVariants as value
use Rattle.lido_base.specs.declared.value.Desc.{Desc}
use Rattle.lido_base.specs.declared.pattern.Part.{Part}
use Rattle.lido_base.specs.declared.pattern.PartPiece.{PartPiece}
use Rattle.lido_base.specs.declared.pattern.PartPiece.TheVariants.{Fixed, Arg}
use Rattle.lido_base.proofs.EquationsLemmas.{contains-later, contains-here}
use Rattle.string_librarian.specs.Denotes.{meaning, read_by}
use Rattle.string_librarian.specs.Parts.{parts_of, parts_bytes, argument_of, is_empty, is_full, HasLengths}

module _ (texts : List (List ℕ)) (patterns : List Pattern) where
  commute : (args : List Plain) (o : Option Pattern)
      → (elim o [ None ↦ [] | Some pattern ↦ parts_bytes texts args pattern.parts ]) ≡ parts_bytes texts args (elim o [ None ↦ [] | Some pattern ↦ pattern.parts ])
  commute args None = refl
  commute args (Some p) = refl

  pub pattern_parts : (k : ℕ) (args : List Plain) → pattern_bytes texts patterns k args ≡ parts_bytes texts args (parts_of patterns (piece.Pattern k))
  pattern_parts k args = commute args (slice_get patterns k)

  pub meaning-parts : (p : Piece) (args : List Plain) (bytes : List ℕ) → meaning texts patterns p args ≡ Some bytes → bytes ≡ parts_bytes texts args (parts_of patterns p)
  meaning-parts piece.Numb (Int z ∷ []) bytes e = sym (same_Some _ _ e) ∙ sym (append-nil (signed_decimal z))
  meaning-parts piece.AsIs (Str s ∷ []) bytes e = sym (same_Some _ _ e) ∙ sym (append-nil s)
  meaning-parts piece.Seq (Text a ∷ Text b ∷ []) bytes e = sym (same_Some _ _ e) ∙ ap (λ l. a ++ l) (sym (append-nil b))
  meaning-parts (piece.Pattern k) args bytes e = sym (same_Some _ _ e) ∙ pattern_parts k args
  meaning-parts _ _ bytes e = cc

module _ (texts : List (List ℕ)) (reading : Desc → List ℕ) where
  abbrev read : Value → Plain
  read v = read_by texts reading v

  read_at : (args : List Value) (k : ℕ) → read (unwrap_or (slice_get args k) value.Void) ≡ unwrap_or (slice_get (map read args) k) Void
  read_at [] k = refl
  read_at (v ∷ vs) zero = refl
  read_at (v ∷ vs) (suc k) = read_at vs k

  -- an argument is read at its place
  pub read-argument : (args : List Value) (k : ℕ) → read (argument_of args k) ≡ argument (map read args) k
  read-argument args zero = refl
  read-argument args (suc k) = read_at args k

  text_at : (args : List Value) (k : ℕ) (d : Desc) → unwrap_or (slice_get args k) value.Void ≡ value.Text d → Contains args (value.Text d)
  text_at [] k d e = cc
  text_at (v ∷ vs) zero d e = subst (λ w. Contains (v ∷ vs) w) e (contains-here v vs)
  text_at (v ∷ vs) (suc k) d e = contains-later v (value.Text d) vs (text_at vs k d e)

  -- a text at a place is among the arguments
  pub text_among : (args : List Value) (k : ℕ) (d : Desc) → argument_of args k ≡ value.Text d → Contains args (value.Text d)
  text_among args zero d e = cc
  text_among args (suc k) d e = text_at args k d e

  not_zero : (n : ℕ) (b : Bool) → nat_eq (suc n) 0 ≡ b → b ≡ false
  not_zero n true e = absurd (omega (arith, eqb-true (suc n) 0 e))
  not_zero n false e = refl

  empty_list : (t : List ℕ) → nat_eq (length t) 0 ≡ is_empty_text (Text t)
  empty_list [] = refl
  empty_list (x ∷ t) = not_zero (length t) (nat_eq (suc (length t)) 0) refl

  same_empty : (v : Value) → ((d : Desc) → v ≡ value.Text d → length (reading d) ≡ d.len) → is_empty v ≡ is_empty_text (read v)
  same_empty (value.Int z) h = refl
  same_empty (value.Bool b) h = refl
  same_empty (value.Str s) h = refl
  same_empty (value.Text d) h = ap (λ n. nat_eq n 0) (sym (h d refl)) ∙ empty_list (reading d)
  same_empty value.Void h = refl
  same_empty (value.Bad o) h = refl

  full_piece : (args : List Value) → HasLengths reading args → (p : PartPiece) (brace : Bool) → is_full args (record { piece = p; brace = brace }) ≡ is_filled (map read args) (record { piece = p; brace = brace })
  full_piece args h (Fixed s) brace = refl
  full_piece args h (Arg k) brace =
      ap not (same_empty (argument_of args k) (λ d e. h d (text_among args k d e)) ∙ ap is_empty_text (read-argument args k))

  -- by their lengths the same texts are empty
  pub full-filled : (args : List Value) → HasLengths reading args → (part : Part) → is_full args part ≡ is_filled (map read args) part
  full-filled args h part = full_piece args h part.piece part.brace

  pub all_full : (args : List Value) → HasLengths reading args → (parts : List Part) → list_all (is_full args) parts ≡ list_all (is_filled (map read args)) parts
  all_full args h [] = refl
  all_full args h (p ∷ ps) = rw (full-filled args h p, all_full args h ps) refl
