-- Which parts of a pattern are printed.
use Rattle.std.specs.Prelude.{◌≢◌, Bool, true, false, not, ◌&&◌, ◌||◌, if◌then◌else◌, All, Contains, flat_map}
use Rattle.std.specs.List.{list_all}
use Rattle.std.proofs.Common.{◌≡◌, ◌⊎◌, inl, inr, ℕ, List, [], ◌∷◌, refl, ap, ◌∙◌, arith}
use Rattle.std.proofs.lemmas.List.Elements.{All-head, All-tail}
use mathlib.Core.Path.{fun_ext}
use Rattle.lido_base.specs.declared.pattern.Part.{Part}
use Rattle.lido_base.specs.declared.pattern.PartPiece.{PartPiece}
use Rattle.lido_base.specs.declared.pattern.PartPiece.TheVariants.{Fixed, Arg}
use Rattle.lido_base.specs.declared.pattern.Pattern.{Pattern}
use Rattle.lido_base.specs.Operations.{argument, is_empty_text, is_filled, part_bytes, pattern_bytes, piece_bytes}
use Rattle.lido_base.specs.Plain.{Plain, Int, Truth, Str, Text, Void, Bad}
use Rattle.lido_base.proofs.TreeLemmas.{contains-cons}

not_empty : (v : Plain) → v ≢ Text [] → not (is_empty_text v) ≡ true
not_empty (Int z) h = refl
not_empty (Truth b) h = refl
not_empty (Str s) h = refl
not_empty (Text []) h = absurd (h refl)
not_empty (Text (x ∷ xs)) h = refl
not_empty Void h = refl
not_empty (Bad o) h = refl

module _ (texts : List (List ℕ)) (args : List Plain) where
  -- the part inserts no empty text
  abbrev InsertsNoEmpty : Part → Type 0
  InsertsNoEmpty part = (k : ℕ) → part.piece ≡ Arg k → argument args k ≢ Text []

  abbrev is_full : PartPiece → Bool
  is_full piece = elim piece [ Fixed s ↦ true | Arg k ↦ not (is_empty_text (argument args k)) ]

  full : (piece : PartPiece) → ((k : ℕ) → piece ≡ Arg k → argument args k ≢ Text []) → is_full piece ≡ true
  full (Fixed s) h = refl
  full (Arg k) h = not_empty (argument args k) (h k refl)

  all_filled : (parts : List Part) → All InsertsNoEmpty parts → list_all (is_filled args) parts ≡ true
  all_filled [] h = refl
  all_filled (part ∷ parts) h = both (full part.piece (All-head InsertsNoEmpty part parts h)) (all_filled parts (All-tail InsertsNoEmpty part parts h))
    where
      both : {a b : Bool} → a ≡ true → b ≡ true → (a && b) ≡ true
      both e f = rw (e, f) refl

  and_false : (a : Bool) → (a && false) ≡ false
  and_false true = refl
  and_false false = refl

  not_all : (parts : List Part) (part : Part) → Contains parts part → is_full part.piece ≡ false → list_all (is_filled args) parts ≡ false
  not_all [] part h e = absurd (omega (arith, h.1))
  not_all (p ∷ parts) part h e = go (contains-cons p part parts h) (λ m. not_all parts part m e)
    where
      go : (p ≡ part) ⊎ Contains parts part → (Contains parts part → list_all (is_filled args) parts ≡ false) → (is_full p.piece && list_all (is_filled args) parts) ≡ false
      go (inl same) later = let here : is_full p.piece ≡ false = ap (λ (q : Part). is_full q.piece) same ∙ e in rw here refl
      go (inr m) later = rw (later m) (and_false (is_full p.piece))

  with_all : (part : Part) → part_bytes texts true args part ≡ piece_bytes texts args part.piece
  with_all part = go part.brace
    where
      go : (b : Bool) → (if not b || true then piece_bytes texts args part.piece else []) ≡ piece_bytes texts args part.piece
      go true = refl
      go false = refl

  without_braced : (part : Part) → part_bytes texts false args part ≡ (if part.brace then [] else piece_bytes texts args part.piece)
  without_braced part = go part.brace
    where
      go : (b : Bool) → (if not b || false then piece_bytes texts args part.piece else []) ≡ (if b then [] else piece_bytes texts args part.piece)
      go true = refl
      go false = refl

  printed_parts : (pattern : Pattern) (b : Bool) → list_all (is_filled args) pattern.parts ≡ b → pattern_bytes texts (pattern ∷ []) 0 args ≡ flat_map (part_bytes texts b args) pattern.parts
  printed_parts pattern b e = ap (λ c. flat_map (part_bytes texts c args) pattern.parts) e

pub filled : (texts : List (List ℕ)) (pattern : Pattern) (args : List Plain) → All (λ (part : Part). (k : ℕ) → part.piece ≡ Arg k → argument args k ≢ Text []) pattern.parts
    → pattern_bytes texts (pattern ∷ []) 0 args ≡ flat_map (λ (part : Part). piece_bytes texts args part.piece) pattern.parts
filled texts pattern args h = printed_parts texts args pattern true (all_filled texts args pattern.parts h)
    ∙ ap (λ (f : Part → List ℕ). flat_map f pattern.parts) (fun_ext (with_all texts args))

pub empty : (texts : List (List ℕ)) (pattern : Pattern) (args : List Plain) (part : Part) (k : ℕ) → Contains pattern.parts part → part.piece ≡ Arg k → argument args k ≡ Text []
    → pattern_bytes texts (pattern ∷ []) 0 args ≡ flat_map (λ (p : Part). if p.brace then [] else piece_bytes texts args p.piece) pattern.parts
empty texts pattern args part k among inserts none = printed_parts texts args pattern false (not_all texts args pattern.parts part among is_empty)
    ∙ ap (λ (f : Part → List ℕ). flat_map f pattern.parts) (fun_ext (without_braced texts args))
  where
    is_empty : is_full texts args part.piece ≡ false
    is_empty = ap (is_full texts args) inserts ∙ ap (λ v. not (is_empty_text v)) none
