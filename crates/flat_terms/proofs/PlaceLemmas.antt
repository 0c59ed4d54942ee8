-- The places of a right side's symbols that pass a test, and of the occurrences that a name means.
use Rattle.std.specs.Prelude.{filter, is_some, ◌&&◌, Contains, ℤ, pos, negsuc}
use Rattle.std.proofs.Common.{◌≡◌, ℕ, zero, suc, ◌+◌, ◌<◌, ◌≤◌, Bool, true, false, nat_eq, if◌then◌else◌, cond, List, [], ◌∷◌, ◌++◌, length, map, take, get_or, Option, Some, None, refl, sym, ap, subst, inl, inr, ◌∙◌, arith}
use Rattle.std.proofs.lemmas.List.{take_more, length-take-le, length-map, map-append, get_or-map}
use Rattle.std.proofs.lemmas.List.Elements.{filter-append}
use Rattle.std.proofs.lemmas.Option.{none-some, same_Some}
use Rattle.lido_base.proofs.Lists.{contains-nil, contains-cons, contains-here, place-contains}
use Rattle.lido_syntax.specs.declared.spec.Name.{Name}
use Rattle.lido_syntax.specs.declared.spec.RuleItem.{RuleItem}
use Rattle.lido_syntax.specs.Production.{name_of, left_of, right_of}
use Rattle.lido_syntax.specs.Production as occurrences
use Rattle.lido_base.specs.declared.ids.SymId.{SymId}
use Rattle.lido_symbols.specs.Numbers.{enumerated}
use Rattle.rule_tables.proofs.PlainLemmas.{enumerated-append}

module _ (test : ℕ → Bool) where
  abbrev pub places_from : ℕ → List ℕ → List ℕ
  places_from n xs = map (λ (x : ℕ × ℕ). x.0) (filter (λ (x : ℕ × ℕ). test x.1) (enumerated n xs))

  alone : (n x : ℕ) → places_from n (x ∷ []) ≡ (if test x then n ∷ [] else [])
  alone n x = by (test x)
    where
      by : (b : Bool) → map (λ (x : ℕ × ℕ). x.0) (cond b ((n, x) ∷ []) []) ≡ (if b then n ∷ [] else [])
      by true = refl
      by false = refl

  -- one symbol more
  pub places-more : (xs : List ℕ) (i : ℕ) → i < length xs → places_from 1 (take (i + 1) xs) ≡ places_from 1 (take i xs) ++ (if test (get_or xs i 0) then (i + 1) ∷ [] else [])
  places-more xs i h =
      ap (places_from 1) (take_more xs i 0 h)
      ∙ ap (λ (l : List (ℕ × ℕ)). map (λ (x : ℕ × ℕ). x.0) (filter (λ (x : ℕ × ℕ). test x.1) l)) (enumerated-append 1 (take i xs) (get_or xs i 0 ∷ []))
      ∙ ap (map (λ (x : ℕ × ℕ). x.0)) (filter-append (λ (x : ℕ × ℕ). test x.1) (enumerated 1 (take i xs)) _)
      ∙ map-append (λ (x : ℕ × ℕ). x.0) (filter (λ (x : ℕ × ℕ). test x.1) (enumerated 1 (take i xs))) _
      ∙ ap (λ l. places_from 1 (take i xs) ++ l) (alone (1 + length (take i xs)) (get_or xs i 0)
      ∙ ap (λ n. if test (get_or xs i 0) then n ∷ [] else []) (let e : length (take i xs) ≡ i = length-take-le i xs (omega (arith, h)) in omega (arith, e)))

  pub found-more : (right : List SymId) (i : ℕ) (old new : List ℕ) (b : Bool) → i < length right → old ≡ places_from 1 (take i (map (λ (x : SymId). x.0) right))
      → b ≡ test (get_or right i (record { 0 = 0 })).0 → new ≡ old ++ (if b then (i + 1) ∷ [] else []) → new ≡ places_from 1 (take (i + 1) (map (λ (x : SymId). x.0) right))
  found-more right i old new b h before is after =
      let at : get_or (map (λ (x : SymId). x.0) right) i 0 ≡ (get_or right i (record { 0 = 0 })).0 = get_or-map (λ (x : SymId). x.0) right i (record { 0 = 0 }) 0 h in
      let size : length (map (λ (x : SymId). x.0) right) ≡ length right = length-map right (λ (x : SymId). x.0) in
      after ∙ ap (λ (l : List ℕ). l ++ (if b then (i + 1) ∷ [] else [])) before
      ∙ ap (λ (t : Bool). places_from 1 (take i (map (λ (x : SymId). x.0) right)) ++ (if t then (i + 1) ∷ [] else [])) (is ∙ ap test (sym at))
      ∙ sym (places-more (map (λ (x : SymId). x.0) right) i (omega (arith, size, h)))

  pub places-within : (n : ℕ) (xs : List ℕ) (j : ℕ) → Contains (places_from n xs) j → j < n + length xs
  places-within n [] j m = absurd (contains-nil j m)
  places-within n (x ∷ xs) j m = by (test x) (places-within (suc n) xs j) m
    where
      by : (b : Bool) → (Contains (places_from (suc n) xs) j → j < suc n + length xs) → Contains (map (λ (y : ℕ × ℕ). y.0) (cond b ((n, x) ∷ filter (λ (y : ℕ × ℕ). test y.1) (enumerated (suc n) xs)) (filter (λ (y : ℕ × ℕ). test y.1) (enumerated (suc n) xs)))) j → j < n + length (x ∷ xs)
      by false later m = let h = later m in omega (arith, h)
      by true later m = elim (contains-cons n j _ m) [ inl e ↦ omega (arith, e) | inr k ↦ (let h = later k in omega (arith, h)) ]

-- an occurrence that a name means stands in the production
places-below : (n x : ℕ) (ys : List ℕ) (k : ℕ) → Contains (occurrences.places_from n x ys) k → k < n + length ys
places-below n x [] k m = absurd (contains-nil k m)
places-below n x (y ∷ ys) k m = by (nat_eq x y) (places-below (suc n) x ys k) m
  where
    by : (b : Bool) → (Contains (occurrences.places_from (suc n) x ys) k → k < suc n + length ys) → Contains (if b then n ∷ occurrences.places_from (suc n) x ys else occurrences.places_from (suc n) x ys) k → k < n + length (y ∷ ys)
    by false later m = let h = later m in omega (arith, h)
    by true later m = elim (contains-cons n k _ m) [ inl e ↦ omega (arith, e) | inr l ↦ (let h = later l in omega (arith, h)) ]

indexed-in : (i : Option ℤ) (places : List ℕ) (k : ℕ) → occurrences.indexed i places ≡ Some k → Contains places k
indexed-in None [] k e = absurd (none-some k e)
indexed-in None (j ∷ []) k e = subst (λ n. Contains (j ∷ []) n) (same_Some _ _ e) (contains-here j [])
indexed-in None (j ∷ m ∷ more) k e = absurd (none-some k e)
indexed-in (Some (pos zero)) places k e = absurd (none-some k e)
indexed-in (Some (pos (suc i))) places k e = place-contains places i k e
indexed-in (Some (negsuc n)) places k e = absurd (none-some k e)

pub occurrence-within : (r : RuleItem) (x : Name) (i : Option ℤ) (k : ℕ) → occurrences.occurrence r x i ≡ Some k → k ≤ length (right_of r)
occurrence-within r x i k e = by-index (r.list && is_some i) e
  where
    by-list : (b : Bool) → Contains (occurrences.places_from 0 (name_of x) (left_of r ∷ (if b then [] else right_of r))) k → k ≤ length (right_of r)
    by-list true m = let h = places-below 0 (name_of x) (left_of r ∷ []) k m in omega (arith, h)
    by-list false m = let h = places-below 0 (name_of x) (left_of r ∷ right_of r) k m in omega (arith, h)

    by-index : (b : Bool) → (if b then None else occurrences.indexed i (occurrences.places_from 0 (name_of x) (occurrences.production r))) ≡ Some k → k ≤ length (right_of r)
    by-index true e = absurd (none-some k e)
    by-index false e = by-list r.list (indexed-in i _ k e)
