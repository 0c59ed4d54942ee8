-- Where the example's job is cut.
use Rattle.std.proofs.Common.{◌≡◌, ◌≢◌, ℕ, zero, suc, ◌+◌, ◌-◌, ◌<◌, ◌≤◌, Bool, true, false, not, cond, ◌==◌, if◌then◌else◌, List, [], ◌∷◌, codes, take, drop, Ok, refl, ap, ◌∙◌, subst, arith, inl, inr}
use Rattle.std.specs.List.{prefix_len, slice_index, slice_range}
use Rattle.std.specs.Str.Lines.{strip_carriage_return}
use Rattle.std.proofs.lemmas.Bool.{cases_Bool, eq-eqb}
use Rattle.std.proofs.lemmas.List.{get_or-drop}
use Rattle.lido_lexer.proofs.Lists.{head_of, no_bytes}
use Rattle.job_text.specs.Lines.{IsFirst}
use Rattle.lido_top.specs.Verdict.{SectionsOf}
use Rattle.lido_top.proofs.RowText.{job, sections}

-- what is in front passes
passes : (p : ℕ → Bool) (xs : List ℕ) (j : ℕ) → j < prefix_len p xs → p (slice_index xs j) ≡ true
passes p [] j less = absurd (omega (arith, less))
passes p (x ∷ xs) zero less = elim (cases_Bool (p x)) [ inl t ↦ t | inr f ↦ absurd (let few : 0 < 0 = rw f at less in omega (arith, few)) ]
passes p (x ∷ xs) (suc j) less =
    elim (cases_Bool (p x)) [
      | inl t ↦ (let few : suc j < 1 + prefix_len p xs = rw t at less in passes p xs j (omega (arith, few)))
      | inr f ↦ absurd (let few : suc j < 0 = rw f at less in omega (arith, few))
    ]

no_feed : (bytes : List ℕ) (from to k : ℕ) → from ≤ k → k < to → prefix_len (λ b. not (b == 10)) (drop from bytes) ≡ to - from → slice_index bytes k ≢ 10
no_feed bytes from to k low high size = λ is.
    let there : from + (k - from) ≡ k = omega (arith, low) in
    let same : slice_index (drop from bytes) (k - from) ≡ 10 = get_or-drop from bytes (k - from) 0 ∙ ap (λ (i : ℕ). slice_index bytes i) there ∙ is in
    let test = passes (λ b. not (b == 10)) (drop from bytes) (k - from) (omega (arith, low, high, size)) in
    let no = ap (λ (b : ℕ). not (b == 10)) same in
    absurd (cc)

front_is : (n b x : ℕ) (l more : List ℕ) → take n (b ∷ l) ≡ x ∷ more → b ≡ x
front_is zero b x l more e = absurd (no_bytes e)
front_is (suc n) b x l more e = head_of e

stripped : (t : Bool) (n b x : ℕ) (l more : List ℕ) → (if t then take n (b ∷ l) else b ∷ l) ≡ x ∷ more → b ≡ x
stripped false n b x l more e = head_of e
stripped true n b x l more e = front_is n b x l more e

at_front : (t b x : ℕ) (bytes more : List ℕ) → strip_carriage_return (take t (b ∷ bytes)) ≡ x ∷ more → b ≡ x
at_front zero b x bytes more e = absurd (no_bytes e)
at_front (suc t) b x bytes more e = stripped _ _ b x (take t bytes) more e

small : (c : Bool) (n m : ℕ) → n ≤ m → cond c (1 + n) 0 ≤ suc m
small true n m less = omega (arith, less)
small false n m less = omega arith

-- a line that begins with x stands behind all the bytes in front that are not x
not_before : (x : ℕ) (text : List ℕ) (f t : ℕ) (more : List ℕ) → strip_carriage_return (slice_range text f t) ≡ x ∷ more → prefix_len (λ b. not (b == x)) text ≤ f
not_before x [] f t more e = omega arith
not_before x (b ∷ bytes) zero t more e =
    let all : t - 0 ≡ t = omega arith in
    let same : b ≡ x = at_front t b x bytes more (subst (λ (n : ℕ). strip_carriage_return (take n (b ∷ bytes)) ≡ x ∷ more) all e) in
    rw (eq-eqb b x same) (omega arith)
not_before x (b ∷ bytes) (suc f) t more e =
    let less : t - suc f ≡ (t - 1) - f = omega arith in
    let later = not_before x bytes f (t - 1) more (subst (λ (n : ℕ). strip_carriage_return (take n (drop f bytes)) ≡ x ∷ more) less e) in
    small (not (b == x)) (prefix_len (λ b. not (b == x)) bytes) f later

patterns_line : IsFirst (codes "%%PTG") job 0 241 246
patterns_line = record {
  behind = omega arith;
  says = record {
    line = record {
      ordered = omega arith;
      starts = λ some within. refl;
      ends = record { within = omega arith; whole = λ k low high. no_feed job 241 246 k low high refl; stops = λ less. refl };
    };
    same = refl;
  };
  first = λ f t low says. not_before 37 job f t (codes "%PTG") says.same;
}

tree_line : IsFirst (codes "%%TREE") job 247 247 253
tree_line = record {
  behind = omega arith;
  says = record {
    line = record {
      ordered = omega arith;
      starts = λ some within. refl;
      ends = record { within = omega arith; whole = λ k low high. no_feed job 247 253 k low high refl; stops = λ less. refl };
    };
    same = refl;
  };
  first = λ f t low says. low;
}

pub is_cut : SectionsOf job (Ok sections)
unfolding SectionsOf
is_cut = record {
  ptg_end = 246;
  tree_end = 253;
  spec_starts = refl;
  spec_ends = patterns_line;
  ptg_starts = refl;
  ptg_ends = tree_line;
  tree_starts = refl;
  tree_ends = refl;
}
