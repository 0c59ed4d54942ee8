-- Texts that are gained, and the ids of the texts that rules are called by.
use Rattle.std.specs.Prelude.{◌≡◌, ℕ, zero, suc, Bool, true, false, List, [], ◌∷◌, ◌++◌, Some, slice_get, not, if◌then◌else◌, refl}
use Rattle.std.proofs.Common.{sym, ap, subst, cond, ◌+◌, arith}
use Rattle.std.specs.List.{position_or_len, list_any}
use Rattle.std.specs.Str.{bytes_eq}
use Rattle.std.proofs.lemmas.Slice.Eq.{bytes_eq-Decides}
use Rattle.std.proofs.lemmas.Option.{none-some}
use Rattle.lido_base.specs.Texts.{with_text}
use Rattle.lido_lexer.specs.Lexing.{Gains}
use Rattle.lido_base.specs.declared.ids.StrId.{StrId}
use Rattle.lido_reader.specs.Items.{called_in, id_in, rule_text}
use Rattle.lido_reader.specs.Specification.{IsLater}
use Rattle.lido_base.proofs.TextsLemmas.{same_place}
use Rattle.lido_lexer.proofs.Reading.{gains_none, gains_more}

pub gains_text : (texts : List (List ℕ)) (t : List ℕ) → Gains texts (with_text texts t)
gains_text texts t = by (list_any (bytes_eq t) texts)
  where
    by : (b : Bool) → Gains texts (if b then texts else (texts ++ t ∷ []))
    by true = gains_none texts
    by false = record { added = t ∷ []; behind = refl }

-- what is later than more texts is later than fewer
pub later_of : (a b later : List (List ℕ)) → Gains a b → IsLater b later → IsLater a later
later_of a b later g l = record { gains = gains_more g l.gains; distinct = l.distinct }

slice_get-kept : {X : Type 0} (xs ys : List X) (i : ℕ) (x : X) → slice_get xs i ≡ Some x → slice_get (xs ++ ys) i ≡ Some x
slice_get-kept [] ys i x e = absurd (none-some _ e)
slice_get-kept (y ∷ xs) ys zero x e = e
slice_get-kept (y ∷ xs) ys (suc i) x e = slice_get-kept xs ys i x e

stands_first : (x : List ℕ) (xs : List (List ℕ)) (t : List ℕ) (b : Bool) → bytes_eq t x ≡ b → ((i : ℕ) → slice_get xs i ≡ Some t → slice_get xs (position_or_len (bytes_eq t) xs) ≡ Some t) → (i : ℕ) → slice_get (x ∷ xs) i ≡ Some t
    → slice_get (x ∷ xs) (cond (not b) (1 + position_or_len (bytes_eq t) xs) 0) ≡ Some t
stands_first x xs t true h later i e = ap Some (sym ((bytes_eq-Decides t x).0 h))
stands_first x xs t false h later zero e = let same : t ≡ x = cc in let it_is : bytes_eq t x ≡ true = (bytes_eq-Decides t x).1 same in cc
stands_first x xs t false h later (suc i) e = let one_more : 1 + position_or_len (bytes_eq t) xs ≡ suc (position_or_len (bytes_eq t) xs) = omega arith in rw one_more (later i e)

-- the first place where a text stands
position_stands : (texts : List (List ℕ)) (t : List ℕ) (i : ℕ) → slice_get texts i ≡ Some t → slice_get texts (position_or_len (bytes_eq t) texts) ≡ Some t
position_stands [] t i e = absurd (none-some _ e)
position_stands (x ∷ xs) t i e = stands_first x xs t (bytes_eq t x) refl (position_stands xs t) i e

-- the id that a text has is its id in later tables
pub id_later : (texts later : List (List ℕ)) (text : List ℕ) (id : StrId) → IsLater texts later → slice_get texts id.0 ≡ Some text → id_in later text ≡ id
id_later texts later text id l e =
    let stands : slice_get later id.0 ≡ Some text = subst (λ z. slice_get z id.0 ≡ Some text) (sym l.gains.behind) (slice_get-kept texts l.gains.added id.0 text e) in
    let first = position_stands later text id.0 stands in
    let same : position_or_len (bytes_eq text) later ≡ id.0 = same_place later l.distinct (position_or_len (bytes_eq text) later) id.0 text first stands in
    ap (λ (i : ℕ). record { 0 = i }) same

-- and so is that of what a rule is called
pub called_later : (texts later : List (List ℕ)) (k : ℕ) (id : StrId) → IsLater texts later → slice_get texts id.0 ≡ Some (rule_text k) → called_in later k ≡ id
called_later texts later k id l e = id_later texts later (rule_text k) id l e
