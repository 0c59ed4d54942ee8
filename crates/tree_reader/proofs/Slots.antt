-- Places of a rule's right side, and what stands in them.
use Rattle.std.proofs.Common.{◌≡◌, ℕ, ◌<◌, ◌≤◌, Bool, true, false, true≢false, List, [], ◌∷◌, map, drop, length, Some, refl, ap, sym, ◌∙◌, subst, arith, suc, zero, ◌⊎◌, inl, inr, if◌then◌else◌}
use Rattle.std.specs.Prelude.{nat_le, slice_get, slice_index_or, All, Contains, ◌||◌}
use Rattle.std.specs.List.{AllZip, list_any}
use Rattle.std.proofs.lemmas.Bool.Decides.{nat_tests}
use Rattle.std.proofs.lemmas.Option.{none-some}
use Rattle.lido_base.specs.declared.ids.SymId.{SymId}
use Rattle.lido_lexer.proofs.BytesLemmas.{same}
use Rattle.std.proofs.lemmas.Option.{same_Some}
use Rattle.flat_grammar.specs.declared.flat.FlatRule.{FlatRule}
use Rattle.flat_grammar.specs.declared.flat.Shape.{Shape}
use Rattle.flat_grammar.specs.WellFormed.{is_same_symbol, positions_from}
use Rattle.flat_grammar.proofs.Lists.{contains-nil, contains-cons, contains-first, contains-later}

pub same_symbol : (s q : SymId) → is_same_symbol s q ≡ true → s ≡ q
same_symbol s q test = let made : ℕ → SymId = λ n. record { 0 = n } in ap made (same test)

found_or_later : (s q : SymId) (xs : List SymId) (b : Bool) → is_same_symbol s q ≡ b → (list_any (is_same_symbol s) xs ≡ true → Contains xs s) → (b || list_any (is_same_symbol s) xs) ≡ true → Contains (q ∷ xs) s
found_or_later s q xs true is later test = subst (λ (x : SymId). Contains (x ∷ xs) s) (same_symbol s q is) (contains-first s xs)
found_or_later s q xs false is later test = contains-later q s xs (later test)

pub is_among : (s : SymId) (xs : List SymId) → list_any (is_same_symbol s) xs ≡ true → Contains xs s
is_among s [] test = absurd (true≢false (sym test))
is_among s (q ∷ xs) test = found_or_later s q xs (is_same_symbol s q) refl (is_among s xs) test

-- the symbol may stand in place k of the right side, counted from 0; in a list in any place
abbrev pub IsSlot : Bool → List SymId → ℕ → SymId → Type 0
IsSlot true right k s = Contains right s
IsSlot false right k s = slice_get right k ≡ Some s

module _ {X : Type 0} (IsIt : SymId → X → Type 0) where
  -- these stand in the places from k on, and none is left over or missing
  abbrev pub AreFrom : Bool → List SymId → ℕ → List X → Type 0
  AreFrom true right k xs = All (λ x. (s : SymId) × Contains right s × IsIt s x) xs
  AreFrom false right k xs = AllZip IsIt (drop k right) xs

  all_cons : (P : X → Type 0) (x : X) (xs : List X) → P x → All P xs → All P (x ∷ xs)
  all_cons P x xs p ps zero d less = p
  all_cons P x xs p ps (suc k) d less = ps k d (omega (arith, less))

  drop_at : (right : List SymId) (k : ℕ) (s : SymId) → slice_get right k ≡ Some s → drop k right ≡ s ∷ drop (suc k) right
  drop_at [] k s is = absurd (none-some _ is)
  drop_at (q ∷ right) zero s is = ap (λ (x : SymId). x ∷ right) (same_Some _ _ is)
  drop_at (q ∷ right) (suc k) s is = drop_at right k s is

  drop_past : (right : List SymId) (k : ℕ) → length right ≤ k → drop k right ≡ []
  drop_past [] zero past = refl
  drop_past [] (suc k) past = refl
  drop_past (q ∷ right) zero past = absurd (omega (arith, past))
  drop_past (q ∷ right) (suc k) past = drop_past right k (omega (arith, past))

  pub one_before : (list : Bool) (right : List SymId) (k : ℕ) (s : SymId) (x : X) (xs : List X) → IsSlot list right k s → IsIt s x → AreFrom list right (suc k) xs → AreFrom list right k (x ∷ xs)
  one_before true right k s x xs slot is rest = all_cons (λ y. (q : SymId) × Contains right q × IsIt q y) x xs (s, slot, is) rest
  one_before false right k s x xs slot is rest = subst (λ (l : List SymId). AllZip IsIt l (x ∷ xs)) (sym (drop_at right k s slot)) (is, rest)

  low_enough : (m k : ℕ) → nat_le m k ≡ true → m ≤ k
  low_enough m k test = grind (arith, nat_tests)

  pub no_more : (list : Bool) (right : List SymId) (k : ℕ) → (list || nat_le (length right) k) ≡ true → AreFrom list right k []
  no_more true right k enough = λ j d less. absurd (omega (arith, less))
  no_more false right k enough = subst (λ (l : List SymId). AllZip IsIt l []) (sym (drop_past right k (low_enough (length right) k enough))) tt

-- ---- shapes

index_any : {X : Type 0} (xs : List X) (k : ℕ) (d e : X) → k < length xs → slice_index_or xs k d ≡ slice_index_or xs k e
index_any [] k d e less = absurd (omega (arith, less))
index_any (x ∷ xs) zero d e less = refl
index_any (x ∷ xs) (suc k) d e less = index_any xs k d e (omega (arith, less))

pub contains_at : {X : Type 0} (xs : List X) (k : ℕ) (d : X) → k < length xs → Contains xs (slice_index_or xs k d)
contains_at xs k d less = (k, less, index_any xs k (slice_index_or xs k d) d less)

abbrev numbers : List Shape → List ℕ
numbers xs = map (λ (x : Shape). x.rule.0) xs

positions_behind : (p : FlatRule → Bool) (rules : List FlatRule) (k : ℕ) (xs : List Shape) (a : Shape) → numbers xs ≡ positions_from p k rules → Contains xs a → k ≤ a.rule.0
positions_behind p [] k [] a is among = absurd (contains-nil a among)
positions_behind p [] k (x ∷ xs) a is among = absurd (cc)
positions_behind p (r ∷ rules) k xs a is among = by (p r) is (λ ys e there. positions_behind p rules (suc k) ys a e there)
  where
    by_first : (ys : List Shape) → numbers ys ≡ k ∷ positions_from p (suc k) rules → Contains ys a → ((ys : List Shape) → numbers ys ≡ positions_from p (suc k) rules → Contains ys a → suc k ≤ a.rule.0) → k ≤ a.rule.0
    by_first [] e there on = absurd (contains-nil a there)
    by_first (y ∷ ys) e there on = at (contains-cons y a ys there)
      where
        at : (y ≡ a) ⊎ Contains ys a → k ≤ a.rule.0
        at (inl same_shape) = let number : y.rule.0 ≡ k = cc in omega (arith, ap (λ (s : Shape). s.rule.0) same_shape, number)
        at (inr later) = omega (arith, on ys (let tail : numbers ys ≡ positions_from p (suc k) rules = cc in tail) later)

    by : (b : Bool) → numbers xs ≡ (if b then k ∷ positions_from p (suc k) rules else positions_from p (suc k) rules) → ((ys : List Shape) → numbers ys ≡ positions_from p (suc k) rules → Contains ys a → suc k ≤ a.rule.0) → k ≤ a.rule.0
    by true e on = by_first xs e among on
    by false e on = omega (arith, on xs e among)

-- two shapes of one rule are one shape
pub one_shape : (p : FlatRule → Bool) (rules : List FlatRule) (k : ℕ) (xs : List Shape) (a b : Shape) → numbers xs ≡ positions_from p k rules → Contains xs a → Contains xs b → a.rule.0 ≡ b.rule.0 → a ≡ b
one_shape p [] k [] a b is first second e = absurd (contains-nil a first)
one_shape p [] k (x ∷ xs) a b is first second e = absurd (cc)
one_shape p (r ∷ rules) k xs a b is first second e = by (p r) is (λ ys same_numbers left right. one_shape p rules (suc k) ys a b same_numbers left right e)
  where
    by_first : (ys : List Shape) → numbers ys ≡ k ∷ positions_from p (suc k) rules → Contains ys a → Contains ys b → ((ys : List Shape) → numbers ys ≡ positions_from p (suc k) rules → Contains ys a → Contains ys b → a ≡ b) → a ≡ b
    by_first [] same_numbers left right on = absurd (contains-nil a left)
    by_first (y ∷ ys) same_numbers left right on = at (contains-cons y a ys left) (contains-cons y b ys right)
      where
        tail : numbers ys ≡ positions_from p (suc k) rules
        tail = cc

        number : y.rule.0 ≡ k
        number = cc

        at : (y ≡ a) ⊎ Contains ys a → (y ≡ b) ⊎ Contains ys b → a ≡ b
        at (inl l) (inl m) = sym l ∙ m
        at (inr l) (inr m) = on ys tail l m
        at (inl l) (inr m) = absurd (omega (arith, positions_behind p rules (suc k) ys b tail m, number, ap (λ (s : Shape). s.rule.0) l, e))
        at (inr l) (inl m) = absurd (omega (arith, positions_behind p rules (suc k) ys a tail l, number, ap (λ (s : Shape). s.rule.0) m, e))

    by : (v : Bool) → numbers xs ≡ (if v then k ∷ positions_from p (suc k) rules else positions_from p (suc k) rules) → ((ys : List Shape) → numbers ys ≡ positions_from p (suc k) rules → Contains ys a → Contains ys b → a ≡ b) → a ≡ b
    by true same_numbers on = by_first xs same_numbers first second on
    by false same_numbers on = on xs same_numbers first second
