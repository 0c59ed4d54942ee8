-- The end of a comment, byte by byte. Its two bytes are variables here.
use Rattle.std.proofs.Common.{◌≡◌, ◌≢◌, ℕ, ◌+◌, ◌<◌, ◌≤◌, Bool, true, false, ◌==◌, ◌&&◌, if◌then◌else◌, List, [], ◌∷◌, ◌++◌, length, drop, get_or, Option, Some, None, refl, ap, sym, ◌∙◌, subst, arith, add-one, ◌⊎◌, inl, inr}
use Rattle.std.proofs.lemmas.Option.{same_Some}
use Rattle.std.proofs.Math.Seq.{drop-cons}
use Rattle.std.proofs.lemmas.List.{length-append, drop_all}
use Rattle.lido_lexer.specs.Gaps.{EndsFirst}
use Rattle.lido_lexer.proofs.Lists.{head_of, tail_of}
use Rattle.lido_lexer.proofs.BytesLemmas.{same, differ, unequal}

module _ (s t : ℕ) where
  -- s and t stand nowhere side by side
  abbrev pub IsFree : List ℕ → Type 0
  IsFree text = (front back : List ℕ) → text ≢ front ++ (s ∷ t ∷ back)

  pub record Ends (bytes rest : List ℕ) : Type 0 where
    pub body : List ℕ
    pub is : bytes ≡ body ++ (s ∷ t ∷ rest)
    pub first : IsFree (body ++ (s ∷ []))

  -- what is behind the first s and t, where an s may stand before the bytes
  abbrev pub past_end : Bool → List ℕ → Option (List ℕ)
  past_end star [] = None
  past_end star (b ∷ bytes) = if star && (b == t) then Some bytes else past_end (b == s) bytes

  abbrev pub with_star : Bool → List ℕ → List ℕ
  with_star true bytes = s ∷ bytes
  with_star false bytes = bytes

  -- the byte x before the bytes makes no end with them
  abbrev IsApart : ℕ → List ℕ → Type 0
  IsApart x bytes = (more : List ℕ) → x ≡ s → bytes ≢ t ∷ more

  too_short : (x : ℕ) (front back : List ℕ) → x ∷ [] ≢ front ++ (s ∷ t ∷ back)
  too_short x front back e = omega (arith, ap length e, length-append front (s ∷ t ∷ back))

  tail_free : (x : ℕ) (text : List ℕ) → IsFree (x ∷ text) → IsFree text
  tail_free x text free front back e = free (x ∷ front) back (ap (λ (l : List ℕ). x ∷ l) e)

  free_more : (x : ℕ) (text : List ℕ) → IsApart x text → IsFree text → IsFree (x ∷ text)
  free_more x text apart free [] back e = apart back (head_of e) (tail_of e)
  free_more x text apart free (y ∷ front) back e = free front back (tail_of e)

  module _ (differ_st : s ≢ t) where
    starts_alike : (x : ℕ) (body rest : List ℕ) → IsApart x (body ++ (s ∷ t ∷ rest)) → IsApart x (body ++ (s ∷ []))
    starts_alike x [] rest apart more is e = differ_st (head_of e)
    starts_alike x (y ∷ body) rest apart more is e = apart (body ++ (s ∷ t ∷ rest)) is (ap (λ (h : ℕ). h ∷ (body ++ (s ∷ t ∷ rest))) (head_of e))

    ends_more : (x : ℕ) (bytes rest : List ℕ) → IsApart x bytes → Ends bytes rest → Ends (x ∷ bytes) rest
    ends_more x bytes rest apart ends = record {
      body = x ∷ ends.body;
      is = ap (λ (l : List ℕ). x ∷ l) ends.is;
      first = free_more x (ends.body ++ (s ∷ [])) (starts_alike x ends.body rest (λ more is e. apart more is (ends.is ∙ e))) ends.first;
    }

    ends_here : (bytes rest body : List ℕ) → s ∷ t ∷ bytes ≡ body ++ (s ∷ t ∷ rest) → IsFree (body ++ (s ∷ [])) → bytes ≡ rest
    ends_here bytes rest [] is free = tail_of (tail_of is)
    ends_here bytes rest (x ∷ []) is free = absurd (differ_st (sym (head_of (tail_of is))))
    ends_here bytes rest (x ∷ y ∷ body) is free = absurd (free [] (body ++ (s ∷ []))
        ((λ j. sym (head_of is) j ∷ sym (head_of (tail_of is)) j ∷ (body ++ (s ∷ [])))))

  ends_less_by : (x : ℕ) (bytes rest body : List ℕ) → IsApart x bytes → x ∷ bytes ≡ body ++ (s ∷ t ∷ rest) → IsFree (body ++ (s ∷ [])) → Ends bytes rest
  ends_less_by x bytes rest [] apart is free = absurd (apart rest (head_of is) (tail_of is))
  ends_less_by x bytes rest (y ∷ body) apart is free = record { body = body; is = tail_of is; first = tail_free y (body ++ (s ∷ [])) free }

  ends_less : (x : ℕ) (bytes rest : List ℕ) → IsApart x bytes → Ends (x ∷ bytes) rest → Ends bytes rest
  ends_less x bytes rest apart ends = ends_less_by x bytes rest ends.body apart ends.is ends.first

  apart_from : (b : ℕ) (bytes : List ℕ) → b ≢ t → IsApart s (b ∷ bytes)
  apart_from b bytes other more is e = other (head_of e)

  apart_no : (x : ℕ) (bytes : List ℕ) → x ≢ s → IsApart x bytes
  apart_no x bytes other more is e = other is

  on_step : s ≢ t → (star : Bool) (b : ℕ) (bytes rest : List ℕ) (slash next : Bool) → (b == t) ≡ slash → (b == s) ≡ next
      → (past_end next bytes ≡ Some rest → Ends (with_star next bytes) rest)
      → (if star && slash then Some bytes else past_end next bytes) ≡ Some rest → Ends (with_star star (b ∷ bytes)) rest
  on_step d true b bytes rest true next slash_is next_is later is =
      let b_is : b ≡ t = same slash_is in
      let rest_is : bytes ≡ rest = cc in
      record { body = []; is = (λ j. s ∷ b_is j ∷ rest_is j); first = too_short s }
  on_step d true b bytes rest false true slash_is next_is later is =
      ends_more d s (b ∷ bytes) rest (apart_from b bytes (differ slash_is))
      (subst (λ (x : ℕ). Ends (x ∷ bytes) rest) (sym (same next_is)) (later is))
  on_step d true b bytes rest false false slash_is next_is later is =
      ends_more d s (b ∷ bytes) rest (apart_from b bytes (differ slash_is))
      (ends_more d b bytes rest (apart_no b bytes (differ next_is)) (later is))
  on_step d false b bytes rest slash true slash_is next_is later is = subst (λ (x : ℕ). Ends (x ∷ bytes) rest) (sym (same next_is)) (later is)
  on_step d false b bytes rest slash false slash_is next_is later is = ends_more d b bytes rest (apart_no b bytes (differ next_is)) (later is)

  -- what is found is what stands behind the first end
  pub ends_on : s ≢ t → (star : Bool) (bytes rest : List ℕ) → past_end star bytes ≡ Some rest → Ends (with_star star bytes) rest
  ends_on d star [] rest is = cc
  ends_on d star (b ∷ bytes) rest is = on_step d star b bytes rest (b == t) (b == s) refl refl (ends_on d (b == s) bytes rest) is

  back_step : s ≢ t → (star : Bool) (b : ℕ) (bytes rest : List ℕ) (slash next : Bool) → (b == t) ≡ slash → (b == s) ≡ next
      → (Ends (with_star next bytes) rest → past_end next bytes ≡ Some rest)
      → Ends (with_star star (b ∷ bytes)) rest → (if star && slash then Some bytes else past_end next bytes) ≡ Some rest
  back_step d true b bytes rest true next slash_is next_is later ends =
      ap Some (ends_here d bytes rest ends.body (ap (λ (x : ℕ). s ∷ x ∷ bytes) (sym (same slash_is)) ∙ ends.is) ends.first)
  back_step d true b bytes rest false true slash_is next_is later ends =
      later (subst (λ (x : ℕ). Ends (x ∷ bytes) rest) (same next_is) (ends_less s (b ∷ bytes) rest (apart_from b bytes (differ slash_is)) ends))
  back_step d true b bytes rest false false slash_is next_is later ends =
      later (ends_less b bytes rest (apart_no b bytes (differ next_is)) (ends_less s (b ∷ bytes) rest (apart_from b bytes (differ slash_is)) ends))
  back_step d false b bytes rest slash true slash_is next_is later ends = later (subst (λ (x : ℕ). Ends (x ∷ bytes) rest) (same next_is) ends)
  back_step d false b bytes rest slash false slash_is next_is later ends = later (ends_less b bytes rest (apart_no b bytes (differ next_is)) ends)

  no_end : (star : Bool) (rest body : List ℕ) → with_star star [] ≡ body ++ (s ∷ t ∷ rest) → ⊥
  no_end true rest body is = too_short s body rest is
  no_end false rest body is = omega (arith, ap length is, length-append body (s ∷ t ∷ rest))

  -- what stands behind the first end is found
  pub ends_back : s ≢ t → (star : Bool) (bytes rest : List ℕ) → Ends (with_star star bytes) rest → past_end star bytes ≡ Some rest
  ends_back d star [] rest ends = absurd (no_end star rest ends.body ends.is)
  ends_back d star (b ∷ bytes) rest ends = back_step d star b bytes rest (b == t) (b == s) refl refl (ends_back d (b == s) bytes rest) ends

  -- the loop's step
  pub past_more : (star : Bool) (i : ℕ) (bytes : List ℕ) → i < length bytes
      → past_end star (drop i bytes) ≡ (if star && (get_or bytes i 0 == t) then Some (drop (i + 1) bytes) else past_end (get_or bytes i 0 == s) (drop (i + 1) bytes))
  past_more star i bytes less = rw (add-one, drop-cons bytes i 0) refl

  pub past_all : (star : Bool) (i : ℕ) (bytes : List ℕ) → length bytes ≤ i → past_end star (drop i bytes) ≡ None
  past_all star i bytes past = rw (drop_all i bytes past) refl

star_slash : (s t : ℕ) → s ≡ 42 → t ≡ 47 → s ≢ t
star_slash s t a b e = omega arith

to_first : {bytes rest : List ℕ} → Ends 42 47 bytes rest → EndsFirst bytes rest
to_first ends = record { body = ends.body; is = ends.is; first = ends.first }

from_first : {bytes rest : List ℕ} → EndsFirst bytes rest → Ends 42 47 bytes rest
from_first ends = record { body = ends.body; is = ends.is; first = ends.first }

-- what is behind the first "*/", where a star may stand before the bytes
abbrev pub past_comment : Bool → List ℕ → Option (List ℕ)
past_comment star bytes = past_end 42 47 star bytes

pub comment_on : {bytes rest : List ℕ} → past_comment false bytes ≡ Some rest → EndsFirst bytes rest
comment_on {bytes} {rest} is = to_first (ends_on 42 47 (star_slash 42 47 refl refl) false bytes rest is)

pub comment_back : {bytes rest : List ℕ} → EndsFirst bytes rest → past_comment false bytes ≡ Some rest
comment_back {bytes} {rest} ends = ends_back 42 47 (star_slash 42 47 refl refl) false bytes rest (from_first ends)

pub one_end : {bytes rest other : List ℕ} → EndsFirst bytes rest → EndsFirst bytes other → rest ≡ other
one_end a b = same_Some _ _ (sym (comment_back a) ∙ comment_back b)

-- a star and a slash: the comment ends
pub ends_at : (bytes : List ℕ) (i : ℕ) (star : Bool) → i < length bytes → past_comment star (drop i bytes) ≡ past_comment false bytes
    → star ≡ true → get_or bytes i 0 ≡ 47 → EndsFirst bytes (drop (i + 1) bytes)
ends_at bytes i star less before star_is slash_is = comment_on
    (sym before ∙ past_more 42 47 star i bytes less
    ∙ ap (λ (b : Bool). if b && (get_or bytes i 0 == 47) then Some (drop (i + 1) bytes) else past_comment (get_or bytes i 0 == 42) (drop (i + 1) bytes)) star_is
    ∙ ap (λ (b : ℕ). if b == 47 then Some (drop (i + 1) bytes) else past_comment (get_or bytes i 0 == 42) (drop (i + 1) bytes)) slash_is)

goes_on : (a b : Bool) (x y : Option (List ℕ)) → (a && b) ≡ false → (if a && b then x else y) ≡ y
goes_on a b x y test = ap (λ (t : Bool). if t then x else y) test

-- no end here
pub ends_later : (bytes : List ℕ) (i : ℕ) (star : Bool) → i < length bytes → past_comment star (drop i bytes) ≡ past_comment false bytes
    → (star && (get_or bytes i 0 == 47)) ≡ false → past_comment (get_or bytes i 0 == 42) (drop (i + 1) bytes) ≡ past_comment false bytes
ends_later bytes i star less before none = sym (goes_on star (get_or bytes i 0 == 47) (Some (drop (i + 1) bytes)) (past_comment (get_or bytes i 0 == 42) (drop (i + 1) bytes)) none)
    ∙ sym (past_more 42 47 star i bytes less) ∙ before

pub ends_nowhere : (bytes : List ℕ) (i : ℕ) (star : Bool) → length bytes ≤ i → past_comment star (drop i bytes) ≡ past_comment false bytes
    → (rest : List ℕ) → EndsFirst bytes rest → ⊥
ends_nowhere bytes i star past before rest ends =
    let e : None ≡ Some rest = sym (past_all 42 47 star i bytes past) ∙ before ∙ comment_back ends in cc

pub not_both : (star : Bool) (b : ℕ) → (star ≡ false) ⊎ (b ≢ 47) → (star && (b == 47)) ≡ false
not_both true b (inl e) = cc
not_both false b (inl e) = refl
not_both true b (inr other) = unequal b 47 other
not_both false b (inr other) = refl
