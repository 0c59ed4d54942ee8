-- Regions to which keys are given.
use Rattle.std.specs.Prelude.{slice_get, take}
use Rattle.std.proofs.lemmas.List.Elements.{Contains-append_cases, Contains-append_left, Contains-append_right}
use Rattle.std.proofs.lemmas.Option.{slice_get_within, get_or_from_slice_get}
use Rattle.std.proofs.lemmas.Grind.{flat_map-append}
use Rattle.std.proofs.Common.{◌≡◌, ◌≤◌, ◌<◌, ◌+◌, ◌++◌, ℕ, zero, suc, append-nil, List, [], ◌∷◌, length, get_or, Some, refl, arith, ap, sym, ◌∙◌, subst, inl, inr, ⊎_elim}
use Rattle.std.proofs.Math.ListN.{set}
use Rattle.std.proofs.lemmas.List.{get_or-set_other}
use Rattle.std.proofs.lemmas.Grind.{get_or-set_at}
use mathlib.Core.Logic.{dite}
use native.Mathlib.Decide.{ℕ_discrete}
use Rattle.lido_base.proofs.Lists.{contains-nil}
use Rattle.region_engine.specs.declared.region.Region.{Region}
use Rattle.region_engine.specs.Deliveries.{all_puts, IsGiven, AreGiven}
use Rattle.region_engine.proofs.Lists.{take-more}

pub given-none : (g : Region) → IsGiven [] g g
given-none g = record {
  number = refl;
  position = refl;
  since = refl;
  numbered = refl;
  desk = refl;
  puts = refl;
  keys = λ key. ((λ h. inl h), (λ h. ⊎_elim (λ a. a) (λ none. absurd (contains-nil key none)) h));
}

pub given-both : (ks ls : List ℕ) (a b c : Region) → IsGiven ks a b → IsGiven ls b c → IsGiven (ks ++ ls) a c
given-both ks ls a b c f g = record {
  number = g.number ∙ f.number;
  position = g.position ∙ f.position;
  since = g.since ∙ f.since;
  numbered = g.numbered ∙ f.numbered;
  desk = g.desk ∙ f.desk;
  puts = g.puts ∙ f.puts;
  keys = λ key. (
    (λ h. ⊎_elim (λ old. ⊎_elim (λ x. inl x) (λ x. inr (Contains-append_left ks ls key x)) ((f.keys key).0 old)) (λ new. inr (Contains-append_right ks ls key new)) ((g.keys key).0 h)),
    (λ h. ⊎_elim
        (λ old. (g.keys key).1 (inl ((f.keys key).1 (inl old))))
        (λ m. ⊎_elim (λ x. (g.keys key).1 (inl ((f.keys key).1 (inr x)))) (λ x. (g.keys key).1 (inr x)) (Contains-append_cases ks ls key m))
        h),
  );
}

pub are-none : (xs : List Region) → AreGiven [] xs xs
are-none xs = record { count = refl; each = λ i d room. given-none (get_or xs i d) }

pub are-both : (ks ls : List ℕ) (xs ys zs : List Region) → AreGiven ks xs ys → AreGiven ls ys zs → AreGiven (ks ++ ls) xs zs
are-both ks ls xs ys zs f g = record {
  count = g.count ∙ f.count;
  each = λ i d room. given-both ks ls (get_or xs i d) (get_or ys i d) (get_or zs i d) (f.each i d room) (g.each i d (let c = f.count in omega (arith, c, room)));
}

pub at-place : {A : Type 0} (xs : List A) (i : ℕ) → i < length xs → (x : A) × (slice_get xs i ≡ Some x)
at-place [] i h = absurd (omega (arith, h))
at-place (x ∷ xs) zero h = (x, refl)
at-place (x ∷ xs) (suc i) h = at-place xs i (omega (arith, h))

-- a region of the list behind what was given has put what it had put
pub same-puts : (ks : List ℕ) (xs ys : List Region) (i : ℕ) (g h : Region) → AreGiven ks xs ys → slice_get xs i ≡ Some g → slice_get ys i ≡ Some h → h.puts.items ≡ g.puts.items
same-puts ks xs ys i g h f e k =
    let w = slice_get_within xs i g e in
    ap (λ (z : Region). z.puts.items) (sym (get_or_from_slice_get ys i h g k)) ∙ (f.each i g w).puts ∙ ap (λ (z : Region). z.puts.items) (get_or_from_slice_get xs i g g e)

-- one put more
pub puts-more : (xs ys zs : List Region) (i p key : ℕ) (g h : Region) → AreGiven (take p g.puts.items) xs ys → slice_get xs i ≡ Some g → slice_get ys i ≡ Some h → slice_get h.puts.items p ≡ Some key → AreGiven (key ∷ []) ys zs
    → AreGiven (take (p + 1) g.puts.items) xs zs
puts-more xs ys zs i p key g h f e k there more =
    subst (λ l. AreGiven l xs zs) (sym (take-more g.puts.items p key (ap (λ l. slice_get l p) (sym (same-puts (take p g.puts.items) xs ys i g h f e k)) ∙ there)))
    (are-both (take p g.puts.items) (key ∷ []) xs ys zs f more)

-- the puts of one region more
pub regions-more : (xs ys zs : List Region) (i : ℕ) → i < length xs → AreGiven (all_puts (take i xs)) xs ys → ((g : Region) → slice_get ys i ≡ Some g → AreGiven g.puts.items ys zs) → AreGiven (all_puts (take (i + 1) xs)) xs zs
regions-more xs ys zs i low f more =
    let c = f.count in
    let a = at-place xs i low in
    let b = at-place ys i (omega (arith, low, c)) in
    let same = same-puts (all_puts (take i xs)) xs ys i a.0 b.0 f a.1 b.1 in
    subst (λ l. AreGiven l xs zs)
    (sym (ap all_puts (take-more xs i a.0 a.1) ∙ flat_map-append (λ (g : Region). g.puts.items) (take i xs) (a.0 ∷ []) ∙ ap (λ l. all_puts (take i xs) ++ l) (append-nil a.0.puts.items)))
    (are-both (all_puts (take i xs)) a.0.puts.items xs ys zs f (subst (λ l. AreGiven l ys zs) same (more b.0 b.1)))

-- a list up to its end
pub take-past : {A : Type 0} (l : List A) (n : ℕ) → length l ≤ n → take n l ≡ l
take-past [] zero h = refl
take-past [] (suc n) h = refl
take-past (x ∷ xs) zero h = absurd (omega (arith, h))
take-past (x ∷ xs) (suc n) h = ap (λ l. x ∷ l) (take-past xs n (omega (arith, h)))

-- one element more of a list has a property
pub set-step : {A : Type 0} (P : ℕ → A → Type 0) (xs : List A) (k : ℕ) (new d : A) → k < length xs → ((i : ℕ) → i < k → P i (get_or xs i d)) → P k new → (i : ℕ) → i < k + 1 → P i (get_or (set xs k new) i d)
set-step P xs k new d room before here i h = dite (ℕ_discrete i k)
    (λ e. subst (λ z. P i z) (sym (get_or-set_at xs k i new d e room)) (subst (λ n. P n new) (sym e) here))
    (λ ne. subst (λ z. P i z) (sym (get_or-set_other xs k i new d ne)) (before i (omega (arith, h, ne))))
